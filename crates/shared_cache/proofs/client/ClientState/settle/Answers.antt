use Rattle.std.proofs.Common.{◌≡◌, ◌+◌, length, arith, ap, ◌∙◌, refl}
use Rattle.std.proofs.Common.{None, cond, drop}
use Rattle.std.specs.Prelude.{nat_lt}
use Rattle.std.specs.List.{slice_get}
use Rattle.shared_cache.specs.declared.log.Wire.TheVariants.{Main}
use Rattle.shared_cache.specs.Notices.{notice_of}
use Rattle.shared_cache.specs.Log.{replies}
use Rattle.shared_cache.specs.Held.{commands}
use Rattle.shared_cache.specs.Steps.{fault_of}
use Rattle.shared_cache.specs.Held.{Setup}
use Rattle.shared_cache.specs.ClientFields.{Client, settled}
use Rattle.shared_cache.proofs.EndsLeft.{room_left}
use Rattle.shared_cache.proofs.Handshakes.{handshake_within, put_count}
use Rattle.shared_cache.proofs.StepCases.{awaits}
use Rattle.std.proofs.lemmas.Bool.{leb-false}
use Rattle.fill_mark.specs.Marks.{query_marked}
use Rattle.shared_cache.specs.HeldKeys.{answered_keys}
use Rattle.shared_cache.proofs.Gots.{reflects_reply}
use Rattle.shared_cache.proofs.client.ClientState.settle.Goals as goal

pub overflow_add-number : goal.overflow_add-number
overflow_add-number c =
    let i = c.self.inside in
    let k = c.self.invariant.reflects in
    omega (
      arith,
      k.replied_within,
      k.pending_count,
      handshake_within i.mode (i.log),
      c.handshake_length-before.ensures.length,
      c.handshake_length-before.ensures.within.1,
      c.len.ensures.count,
      c.len.ensures.within,
    )

pub put_reply-requires : goal.put_reply-requires
put_reply-requires c =
    let i = c.self.inside in
    let k = c.self.invariant.reflects in
    let s : Setup = record { mode = i.mode; capacity = i.capacity; log_max = i.log_max } in
    let log = i.log in
    let fault : fault_of s log Main c.args.value ≡ None
    = ap (λ (st : Client). fault_of st.setup st.past Main c.args.value) c.self.view_is
    ∙ c.requires.awaited in
    let a = awaits s log Main c.args.value
    (ap (λ (st : Client). notice_of st.setup.mode Main c.args.value) c.self.view_is
    ∙ c.requires.reply) fault in
    λ big.
    omega (
      arith,
      big,
      leb-false (length (commands s Main log)) (length (replies i.mode Main log)) a.0,
      put_count s log,
      handshake_within i.mode log,
      k.replied_is,
      k.pending_count,
    )

pub invariant_of-self-2 : goal.invariant_of-self-2
invariant_of-self-2 c =
    let i = c.self.inside in
    let k = c.self.invariant.reflects in
    let s : Setup = record { mode = i.mode; capacity = i.capacity; log_max = i.log_max } in
    let log = i.log in
    let fault : fault_of s log Main c.args.value ≡ None =
    ap (λ (st : Client). fault_of st.setup st.past Main c.args.value) c.self.view_is
    ∙ c.requires.awaited in
    let reply = ap (λ (st : Client). notice_of st.setup.mode Main c.args.value) c.self.view_is
    ∙ c.requires.reply in
    let a = awaits s log Main c.args.value reply fault in
    let number = i.replied + 1 in
    let before = c.handshake_length-before.ensures.length in
    let front = c.for_number.ensures
    ∙ ap (λ b. cond (nat_lt b number) (slice_get i.named 0) None) before in
    record {
      reflects = rw (
        c.record_got-value.ensures.log,
        c.put_reply.ensures
            ∙ ap (λ v. settled i.mode number v i.pending) c.record_got-value.ensures.value,
        c.in_ok-refill.ensures.marks,
        c.in_ok-refill.ensures.keys
            ∙ (λ j. answered_keys (front j) (query_marked number i.marks) number c.args.value
            i.keys),
        c.drop_number.ensures ∙ ap (λ b. cond (nat_lt b number) (drop 1 i.named) i.named) before,
      )
          (reflects_reply _ _ _ k c.args.value number reply a.0 a.1 refl);
      room =
          room_left i.log _ _ i.owed (i.owed) 3 i.ended i.side.ended c.record_got-value.ensures.log
          c.in_ok-reserve.ensures.ok (omega arith);
    }
