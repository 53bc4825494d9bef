use Rattle.std.proofs.Common.{◌≡◌, ◌+◌, arith, ap, ◌∙◌, refl}
use Rattle.std.proofs.Common.{None}
use Rattle.shared_cache.specs.declared.log.Wire.TheVariants.{Side}
use Rattle.shared_cache.specs.Notices.{notice_of}
use Rattle.shared_cache.specs.Steps.{fault_of}
use Rattle.shared_cache.specs.Held.{Setup}
use Rattle.shared_cache.specs.ClientFields.{Client}
use Rattle.shared_cache.proofs.EndsLeft.{room_left}
use Rattle.shared_cache.proofs.Handshakes.{side_at_most}
use Rattle.shared_cache.proofs.StepCases.{awaits}
use Rattle.shared_cache.proofs.Gots.{reflects_side}
use Rattle.shared_cache.proofs.client.ClientState.settle_side.Goals as goal

pub overflow_add-number : goal.overflow_add-number
overflow_add-number c =
    omega (arith, c.self.invariant.reflects.side_within, side_at_most c.self.inside.mode)

pub invariant_of-self-2 : goal.invariant_of-self-2
invariant_of-self-2 c =
    let i = c.self.inside in
    let k = c.self.invariant.reflects in
    let s : Setup = record { mode = i.mode; capacity = i.capacity; log_max = i.log_max } in
    let log = i.log in
    let fault : fault_of s log Side c.args.value ≡ None =
    ap (λ (st : Client). fault_of st.setup st.past Side c.args.value) c.self.view_is
    ∙ c.requires.awaited in
    let reply = ap (λ (st : Client). notice_of st.setup.mode Side c.args.value) c.self.view_is
    ∙ c.requires.reply in
    let a = awaits s log Side c.args.value reply fault in
    let number = i.side.replied + 1 in
    record {
      reflects = rw (
        c.record.ensures,
        c.in_ok-add.ensures.ok,
        c.deref.ensures.value,
      )
          (reflects_side _ _ _ k c.args.value number c.in_ok-id.id c.in_ok-bytes.bytes.items reply
          a.0 refl c.in_ok-id.ensures
          c.in_ok-bytes.ensures);
      room =
          room_left i.log _ _ i.owed (i.owed) 3 i.ended i.side.ended c.record.ensures
          c.in_ok-reserve.ensures.ok (omega arith);
    }
