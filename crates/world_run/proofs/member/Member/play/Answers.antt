use Rattle.std.proofs.Common.{ap, subst, sym, ◌∙◌, arith}
use Rattle.std.proofs.lemmas.Result.{err_from_is_err_and}
use Rattle.shared_cache.specs.ClientFields.{Client}
use Rattle.shared_cache.specs.Laws.{IsCall}
use Rattle.world_run.specs.Members.{seat}
use Rattle.world_run.specs.WorldState.{MemberState}
use Rattle.world_run.specs.MemberTurns.{Turned}
use Rattle.world_run.proofs.Answering.{seen, step_like, turn_before, turn_stops, turned_like}
use Rattle.world_run.proofs.Counts.{Counts, counts_kept, turn_gots}
use Rattle.world_run.proofs.member.Member.play.Goals as goal
use Rattle.world_run.proofs.member.Member.play.Goals.{In_ok-reply}

pub turn-requires : goal.turn-requires
turn-requires c =
    subst (λ (m : MemberState). IsCall m.state.setup.mode c.args.call) (sym c.self.view_is)
    c.requires.call

pub returns-in_err-reply : goal.returns-in_err-reply
returns-in_err-reply c =
    let i = c.self.inside in
    let same = ap (λ (x : Client). record (seen i) { state = x })
    c.in_err-reply.ensures.err ∙ c.self.view_is in
    let p = err_from_is_err_and c.from_residual.result c.from_residual.ensures.1 in
    rw p.1 (grind (arith, turn_before))

kept : (c : In_ok-reply) → let i = c.self.inside in
    Counts i.shape i.got_main i.got_side i.link i.name c.turn.new.state
kept c =
    let i = c.self.inside in
    counts_kept i.shape i.got_main i.got_side i.link i.name i.state c.turn.new.state
    c.turn.ensures.setup
    (λ u. turn_gots u i.state.setup i.state.past c.turn.new.state.past c.args.call
    c.in_ok-reply.reply c.requires.no_value c.in_ok-reply.ensures.step) c.self.invariant

pub invariant_of-self-in-Some : goal.invariant_of-self-in-Some
invariant_of-self-in-Some c = kept (goal.at.invariant_of-self-in-Some c).In_ok-reply

pub returns-in-Some : goal.returns-in-Some
returns-in-Some c =
    let i = c.self.inside in
    let old = c.args.self.now in
    let new : MemberState = record (seen i) { state = c.turn.new.state } in
    let like : Turned old new =
    turned_like _ old c.turn.new.state c.self.view_is c.turn.ensures.setup in
    let is = step_like _ old c.args.call c.in_ok-reply.reply new.state.past c.self.view_is
    c.in_ok-reply.ensures.step in
    λ e links reader lines. turn_stops e (seat links old reader) c.args.call new c.in_ok-reply.reply
    like is lines c.in-Some.fault (sym c.fault_of.ensures ∙ c.in-Some.is)

pub invariant_of-self-2 : goal.invariant_of-self-2
invariant_of-self-2 c = kept (goal.at.invariant_of-self-2 c).In_ok-reply
