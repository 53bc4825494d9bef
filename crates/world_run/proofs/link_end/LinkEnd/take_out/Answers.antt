use Rattle.std.proofs.Common.{append-nil, ap, subst, sym, ◌∙◌, Ok, Err}
use Rattle.std.proofs.lemmas.Result.{err_from_is_err_and}
use Rattle.shared_cache.specs.declared.log.ClientCall.TheVariants as call
use Rattle.shared_cache.specs.Steps.{ClientTurn}
use Rattle.server_links.specs.LinkEvent.{Put}
use Rattle.server_links.specs.Outcome.{Gives, Stops}
use Rattle.server_links.proofs.Outcomes.{gives_then, stops_first}
use Rattle.world_run.specs.WorldState.{LinkEnd}
use Rattle.world_run.specs.ClientMoves.{bytes_of, take_out, turn}
use Rattle.world_run.specs.Members.{links_do, seat}
use Rattle.world_run.specs.MemberTurns.{TurnGives}
use Rattle.world_run.proofs.Answering.{kept_setup, turn_ends}
use Rattle.world_run.proofs.link_end.LinkEnd.take_out.Goals as goal

pub returns-in_err-reply-clause-gives : goal.returns-in_err-reply-clause-gives
unfolding take_out
returns-in_err-reply-clause-gives c r =
    let e = c.args.self.now in
    let ls = c.args.links.now in
    let fault = c.in_err-reply.field-0.0 in
    let t = seat ls c.play.new.self r in
    let p = err_from_is_err_and c.from_residual.result c.from_residual.ensures.1 in
    rw p.1 (rw p.2
    (stops_first (turn (call.TakeOut e.wire c.args.most) e (seat ls c.args.member.now r)) _
    c.args.lines.now fault t c.args.lines.now
    (subst (λ (x : LinkEnd). Stops (turn (call.TakeOut x.wire c.args.most) e
    (seat ls c.args.member.now r)) c.args.lines.now fault t c.args.lines.now) c.self.view_is
    (c.in_err-reply.ensures e ls r c.args.lines.now))))

pub returns-in_err-reply-clause-setup : goal.returns-in_err-reply-clause-setup
returns-in_err-reply-clause-setup c =
    kept_setup c.args.links.now (call.TakeOut c.self.inside.wire c.args.most) c.args.member.now
    c.play.new.self (Err c.in_err-reply.field-0.0) c.in_err-reply.ensures

pub returns-clause-gives : goal.returns-clause-gives
unfolding take_out
returns-clause-gives c r =
    let e = c.args.self.now in
    let ls = c.args.links.now in
    let s = seat ls c.args.member.now r in
    let m = c.play.new.self in
    let lines = c.args.lines.now in
    let g = subst (λ (x : LinkEnd). TurnGives (call.TakeOut x.wire c.args.most) c.args.member.now
    (Ok c.in_ok-reply.reply) m) c.self.view_is c.in_ok-reply.ensures in
    let bytes = c.as_slice.ensures ∙ c.bytes_of-bytes.ensures
    ∙ ap (λ (t : ClientTurn). bytes_of t.reply) (sym g.1) in
    gives_then (turn (call.TakeOut e.wire c.args.most) e s) _ lines (tt {0}) (seat ls m r) lines
    c.put.result (seat c.put.new.links m r) c.put.new.lines
    (turn_ends e s (call.TakeOut e.wire c.args.most) m c.in_ok-reply.reply g.0 g.1 lines lines g.2
    (sym (append-nil lines)))
    (subst (λ b. Gives (links_do (Put e.link b) (seat ls m r)) lines c.put.result
    (seat c.put.new.links m r) c.put.new.lines) bytes (c.put.ensures.gives m r))
