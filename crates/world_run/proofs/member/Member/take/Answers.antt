use Rattle.std.proofs.Common.{◌≡◌, ◌+◌, arith, ap, cond, subst, sym, ◌∙◌}
use Rattle.std.proofs.lemmas.Result.{err_from_is_err_and}
use Rattle.shared_cache.specs.declared.log.ClientCall.TheVariants as call
use Rattle.shared_cache.specs.declared.log.ClientReply.{ClientReply}
use Rattle.shared_cache.specs.declared.log.ClientReply.TheVariants.{Noted, Refused}
use Rattle.shared_cache.specs.declared.log.Wire.TheVariants.{Main, Side}
use Rattle.shared_cache.specs.ClientFields.{Client}
use Rattle.shared_cache.specs.Log.{HasWire, is_wire}
use Rattle.shared_cache.specs.Steps.{client_step}
use Rattle.world_run.specs.Members.{seat}
use Rattle.world_run.specs.MemberTurns.{TurnGives}
use Rattle.world_run.specs.WorldState.{MemberState}
use Rattle.world_run.proofs.Answering.{GotPast, got_more, got_other, got_past, got_same}
use Rattle.world_run.proofs.Answering.{gots_within, seen, step_like, turn_before, turn_stops}
use Rattle.world_run.proofs.Answering.{turned_like}
use Rattle.world_run.proofs.Counts.{counts_by, counts_kept, got_count}
use Rattle.world_run.proofs.member.Member.take.Goals as goal
use Rattle.world_run.proofs.member.Member.take.Goals.{In-Noted, in-Some, in-None}

pub turn-requires : goal.turn-requires
turn-requires c =
    subst (λ (m : MemberState). HasWire m.state.setup.mode.shape c.args.wire) (sym c.self.view_is)
    c.requires

pub returns-in_err-turn : goal.returns-in_err-turn
returns-in_err-turn c =
    let i = c.self.inside in
    let same = ap (λ (x : Client). record (seen i) { state = x })
    c.in_err-turn.ensures.err ∙ c.self.view_is in
    let p = err_from_is_err_and c.from_residual.result c.from_residual.ensures.1 in
    rw p.1 (grind (arith, turn_before))

noted : (c : In-Noted) →
    GotPast c.args.wire c.self.inside.state.past c.args.value Noted c.turn.new.state.past
noted c =
    let i = c.self.inside in
    got_past c.args.wire i.state.setup i.state.past c.args.value Noted c.turn.new.state.past
    (subst (λ (r : ClientReply). client_step i.state.setup i.state.past
    (call.Got c.args.wire c.args.value) ≡ record { reply = r; past = c.turn.new.state.past })
    c.in-Noted.is c.in_ok-turn.ensures.step)

pub counted-main-requires : goal.counted-main-requires
counted-main-requires c =
    let i = c.self.inside in
    let g = got_more c.args.wire i.state.past c.turn.new.state.past c.args.value
    (noted (goal.at.counted-main-requires c).In-Noted) in
    let le = gots_within Main i.state.past in
    grind arith

pub counted-side-requires : goal.counted-side-requires
counted-side-requires c =
    let i = c.self.inside in
    let g = got_more c.args.wire i.state.past c.turn.new.state.past c.args.value
    (noted (goal.at.counted-side-requires c).In-Noted) in
    let le = gots_within Side i.state.past in
    grind arith

pub invariant_of-self-in-Noted : goal.invariant_of-self-in-Noted
invariant_of-self-in-Noted c =
    let i = c.self.inside in
    let u = c.args.wire in
    let new = c.turn.new.state in
    let g = noted (goal.at.invariant_of-self-in-Noted c).In-Noted in
    counts_by i.shape i.got_main i.got_side i.link i.name i.state new c.turn.ensures.setup
    c.counted-main.result c.counted-side.result
    (c.counted-main.ensures ∙ ap (λ n. cond (is_wire u Main) (n + 1) n) c.self.invariant.2
    ∙ sym (got_count u Main i.state.past new.past c.args.value g))
    (c.counted-side.ensures ∙ ap (λ n. cond (is_wire u Side) (n + 1) n) c.self.invariant.3
    ∙ sym (got_count u Side i.state.past new.past c.args.value g))
    c.self.invariant

pub invariant_of-self-in-Refused : goal.invariant_of-self-in-Refused
invariant_of-self-in-Refused c =
    let i = c.self.inside in
    let new = c.turn.new.state in
    counts_kept i.shape i.got_main i.got_side i.link i.name i.state new c.turn.ensures.setup
    (got_same c.args.wire i.state.past new.past c.args.value c.in-Refused.refusal
    (got_past c.args.wire i.state.setup i.state.past c.args.value (Refused c.in-Refused.refusal)
    new.past
    (subst (λ (r : ClientReply). client_step i.state.setup i.state.past
    (call.Got c.args.wire c.args.value) ≡ record { reply = r; past = new.past })
    c.in-Refused.is c.in_ok-turn.ensures.step)))
    c.self.invariant

pub returns-after-refused_fault : goal.returns-after-refused_fault
returns-after-refused_fault c =
    let i = c.self.inside in
    let old = c.args.self.now in
    let new : MemberState = record (seen i) { state = c.turn.new.state } in
    let got = call.Got c.args.wire c.args.value in
    let reply = Refused c.in-Refused.refusal in
    let like = turned_like _ old c.turn.new.state c.self.view_is c.turn.ensures.setup in
    let is = step_like _ old got reply new.state.past c.self.view_is
    (subst (λ (r : ClientReply). client_step i.state.setup i.state.past got
    ≡ record { reply = r; past = c.turn.new.state.past }) c.in-Refused.is
    c.in_ok-turn.ensures.step) in
    elim c.match-refused_fault.branch [
      | in-Some w ↦
          subst (λ r. TurnGives got old r new) (sym w.result-is)
          (λ e links reader lines. turn_stops e (seat links old reader) got new reply like is lines
          w.in-Some.fault (sym c.refused_fault.ensures ∙ w.in-Some.is))
      | in-None w ↦
          subst (λ r. TurnGives got old r new) (sym w.result-is)
          (like, is, sym c.refused_fault.ensures ∙ w.in-None.is)
    ]

pub unreachable-requires : goal.unreachable-requires
unreachable-requires c =
    let i = c.self.inside in
    got_other c.args.wire i.state.past c.turn.new.state.past c.args.value c.in_ok-turn.field-0
    (grind (arith, got_past))
    c.in_default.not-Noted c.in_default.not-Refused
