use Rattle.std.proofs.Common.{◌||◌, ap, sym, ◌∙◌, arith}
use Rattle.shared_cache.specs.declared.log.Wire.TheVariants.{Main, Side}
use Rattle.shared_cache.specs.Log.{ends_wire, is_ended, is_ready}
use Rattle.shared_cache.specs.ClientFields.{Client}
use Rattle.shared_cache.proofs.EndsLeft.{longer, room_less}
use Rattle.shared_cache.proofs.OtherTurns.{reflects_last, stands_on}
use Rattle.shared_cache.proofs.client.ClientState.finish.Goals as goal

pub record-requires : goal.record-requires
record-requires c =
    let i = c.self.inside in
    let k = c.self.invariant.reflects in
    let open_ = ap (λ (st : Client). is_ended st.setup.mode c.args.wire st.past) c.self.view_is
    ∙ c.requires.open in
    let less = room_less i.mode.shape c.args.wire c.is_ready-ready.result i.ended i.side.ended
    (stands_on _ _ _ k c.args.wire open_) in
    let r = c.self.invariant.room in
    omega arith

pub invariant_of-self : goal.invariant_of-self
invariant_of-self c =
    let i = c.self.inside in
    let k = c.self.invariant.reflects in
    let open_ = ap (λ (st : Client). is_ended st.setup.mode c.args.wire st.past) c.self.view_is
    ∙ c.requires.open in
    let ready = c.is_ready-ready.ensures
    ∙ sym (ap (λ (st : Client). is_ready st.setup.mode st.past) c.self.view_is) in
    record {
      reflects = rw (
        c.record.ensures,
        c.forget_all.ensures.marks,
        c.forget_all.ensures.keys,
        c.has_ended_by-main.ensures
            ∙ ap (λ b. ends_wire i.mode.shape c.args.wire Main b || i.ended) ready,
        c.has_ended_by-side.ensures
            ∙ ap (λ b. ends_wire i.mode.shape c.args.wire Side b || i.side.ended) ready,
      )
          (reflects_last _ _ _ k c.args.wire c.args.entry c.requires.last);
      room =
          let less = room_less i.mode.shape c.args.wire c.is_ready-ready.result i.ended i.side.ended
          (stands_on _ _ _ k c.args.wire open_) in
          let r = c.self.invariant.room in
          let more = longer i.log _ _ c.record.ensures in
          rw (c.has_ended_by-main.ensures, c.has_ended_by-side.ensures) (omega arith);
    }
