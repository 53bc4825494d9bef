use Rattle.std.proofs.Common.{◌≡◌, ◌++◌, Ok, Err, ap, refl, subst, ◌∙◌, arith}
use Rattle.std.proofs.lemmas.Result.{err_from_is_err_and}
use Rattle.resp_stream.specs.Stream.{Stream}
use Rattle.shared_cache.specs.declared.log.ClientCall.TheVariants as call
use Rattle.server_links.specs.declared.fault.WorldFault.TheVariants.{NoMemory}
use Rattle.server_links.specs.Outcome.{Stops}
use Rattle.server_links.proofs.Outcomes.{Ends}
use Rattle.world_run.specs.WorldState.{LinkEnd}
use Rattle.world_run.specs.ClientMoves.{got, turn}
use Rattle.world_run.specs.Members.{seat}
use Rattle.world_run.specs.MemberTurns.{TurnGives}
use Rattle.world_run.proofs.Answering.{kept_setup, turn_after, turn_ends}
use Rattle.world_run.proofs.link_end.LinkEnd.got.Goals as goal
use Rattle.world_run.proofs.link_end.LinkEnd.got.Goals.{After-take, In_ok-reply}

-- its link has not ended
going : (c : After-take) (r : Stream) →
    let s = seat c.args.links.now c.args.member.now r in
    turn (call.Got c.args.self.now.wire c.args.value) c.args.self.now s
    ≡ got c.args.value c.args.self.now s
going c r = grind arith

took : (c : In_ok-reply) → TurnGives (call.Got c.args.self.now.wire c.args.value) c.args.member.now
    (Ok c.in_ok-reply.reply) c.take.new.self
took c =
    subst (λ (e : LinkEnd). TurnGives (call.Got e.wire c.args.value) c.args.member.now
    (Ok c.in_ok-reply.reply) c.take.new.self) c.self.view_is c.in_ok-reply.ensures

pub returns-in_err-reply-clause-gives : goal.returns-in_err-reply-clause-gives
returns-in_err-reply-clause-gives c r =
    let e = c.args.self.now in
    let fault = c.in_err-reply.field-0.0 in
    let t = seat c.args.links.now c.take.new.self r in
    let p = err_from_is_err_and c.from_residual.result c.from_residual.ensures.1 in
    rw p.1 (rw p.2
    (subst (λ o. Stops o c.args.lines.now fault t c.args.lines.now)
    (going (goal.at.returns-in_err-reply-clause-gives c).After-take r)
    (subst (λ (x : LinkEnd). Stops (turn (call.Got x.wire c.args.value) e
    (seat c.args.links.now c.args.member.now r)) c.args.lines.now fault t c.args.lines.now)
    c.self.view_is (c.in_err-reply.ensures e c.args.links.now r c.args.lines.now))))

pub returns-in_err-reply-clause-setup : goal.returns-in_err-reply-clause-setup
returns-in_err-reply-clause-setup c =
    kept_setup c.args.links.now (call.Got c.self.inside.wire c.args.value) c.args.member.now
    c.take.new.self (Err c.in_err-reply.field-0.0) c.in_err-reply.ensures

pub returns-in_err-line-clause-gives : goal.returns-in_err-line-clause-gives
returns-in_err-line-clause-gives c r =
    let e = c.args.self.now in
    let s = seat c.args.links.now c.args.member.now r in
    let t = seat c.args.links.now c.take.new.self r in
    let g = took (goal.at.returns-in_err-line-clause-gives c).In_ok-reply in
    let p = err_from_is_err_and c.from_residual-in_err-line.result
    c.from_residual-in_err-line.ensures.1 in
    rw p.1 (rw p.2
    (subst (λ o. Stops o c.args.lines.now NoMemory t c.args.lines.now)
    (going (goal.at.returns-in_err-line-clause-gives c).After-take r)
    (turn_after e s (call.Got e.wire c.args.value) c.take.new.self c.in_ok-reply.reply g.0 g.1
    c.args.lines.now c.args.lines.now refl)))

pub returns-in_err-put_line-clause-gives : goal.returns-in_err-put_line-clause-gives
returns-in_err-put_line-clause-gives c r =
    let e = c.args.self.now in
    let s = seat c.args.links.now c.args.member.now r in
    let t = seat c.args.links.now c.take.new.self r in
    let g = took (goal.at.returns-in_err-put_line-clause-gives c).In_ok-reply in
    let p = err_from_is_err_and c.from_residual-in_err-put_line.result
    c.from_residual-in_err-put_line.ensures.1 in
    rw p.1 (rw p.2
    (subst (λ o. Stops o c.args.lines.now NoMemory t c.put_line.new.lines)
    (going (goal.at.returns-in_err-put_line-clause-gives c).After-take r)
    (turn_after e s (call.Got e.wire c.args.value) c.take.new.self c.in_ok-reply.reply g.0 g.1
    c.args.lines.now c.put_line.new.lines c.in_err-put_line.ensures.err)))

pub returns-clause-gives : goal.returns-clause-gives
returns-clause-gives c r =
    let e = c.args.self.now in
    let s = seat c.args.links.now c.args.member.now r in
    let m = c.take.new.self in
    let g = took (goal.at.returns-clause-gives c).In_ok-reply in
    subst (λ o. Ends o c.args.lines.now (seat c.args.links.now m r) c.put_line.new.lines)
    (going (goal.at.returns-clause-gives c).After-take r)
    (turn_ends e s (call.Got e.wire c.args.value) m c.in_ok-reply.reply g.0 g.1 c.args.lines.now
    c.put_line.new.lines g.2
    (c.in_ok-put_line.ensures.ok ∙ ap (λ x. c.args.lines.now ++ x) c.in_ok-line.ensures))
