use Rattle.std.proofs.Common.{arith, ap, sym, ◌∙◌}
use Rattle.shared_cache.specs.Notices.{notice_of}
use Rattle.shared_cache.specs.ClientFields.{Client}
use Rattle.shared_cache.proofs.EndsLeft.{room_left}
use Rattle.shared_cache.proofs.Gots.{reflects_push}
use Rattle.shared_cache.proofs.client.ClientState.on_push.Goals as goal

pub invariant_of-self : goal.invariant_of-self
invariant_of-self c =
    let i = c.self.inside in
    let k = c.self.invariant.reflects in
    record {
      reflects = rw (
        c.record.ensures,
        c.invalidate.ensures.marks,
        c.invalidate.ensures.keys,
        c.is_broken_by-self-inside.ensures,
      )
          (reflects_push _ _ _ k c.args.wire c.args.value c.args.notice c.in_ok-written.written
          (c.requires.notice
          ∙ sym (ap (λ (st : Client). notice_of st.setup.mode c.args.wire c.args.value)
          c.self.view_is))
          c.requires.push c.in_ok-written.ensures);
      room =
          room_left i.log _ _ i.owed (i.owed) 3 i.ended i.side.ended c.record.ensures
          c.in_ok-reserve.ensures.ok (omega arith);
    }
