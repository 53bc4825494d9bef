use Rattle.std.proofs.Common.{◌+◌, not, arith, ap, ◌∙◌, sym, refl}
use Rattle.shared_cache.proofs.EndsLeft.{room_left}
use Rattle.std.specs.List.{filter}
use Rattle.command_words.specs.Queries.{key_of, names}
use Rattle.fill_mark.specs.declared.marks.Mark.{Mark}
use Rattle.shared_cache.specs.Log.{caching_on, is_ready}
use Rattle.shared_cache.specs.Held.{send_lead, is_read}
use Rattle.shared_cache.specs.ClientFields.{Client}
use Rattle.shared_cache.proofs.OtherTurns.{reflects_send}
use Rattle.shared_cache.proofs.client.ClientState.pass_on.Goals as goal

pub invariant_of-self-2 : goal.invariant_of-self-2
invariant_of-self-2 c =
    let i = c.self.inside in
    let k = c.self.invariant.reflects in
    record {
      reflects = rw (
        c.record.ensures,
        c.in_ok-enqueue.ensures.queued,
        c.in_ok-enqueue.ensures.pending,
        c.in_ok-enqueue.ensures.named,
        c.invalidate.ensures.marks
            ∙ ap (λ w. filter (λ (m : Mark). not (names w (key_of m.query))) i.marks)
            c.in_ok-written.ensures,
        c.invalidate.ensures.keys,
      )
          (reflects_send _ _ _ k c.args.words c.in_ok-written.written c.in_ok-lead.lead _
          (ap (λ (st : Client). is_ready st.setup.mode st.past) c.self.view_is ∙ c.requires.ready)
          c.in_ok-written.ensures
          (c.in_ok-lead.ensures
          ∙ ap (λ (st : Client). send_lead st.setup.mode.caching
          (caching_on st.setup.mode st.past) (is_read c.args.words)) (sym c.self.view_is)) refl);
      room =
          room_left i.log _ _ i.owed (i.owed + 1) 4 i.ended i.side.ended c.record.ensures
          c.in_ok-reserve.ensures.ok (omega arith);
    }
