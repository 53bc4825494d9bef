use Rattle.std.proofs.Common.{◌++◌, Err, refl, ap, ◌∙◌}
use Rattle.std.proofs.lemmas.Result.{err_from_is_err_and}
use Rattle.shared_cache.specs.declared.log.ClientCall.TheVariants as call
use Rattle.world_run.specs.Members.{seat}
use Rattle.world_run.proofs.Answering.{kept_setup, turn_after, turn_ends}
use Rattle.world_run.proofs.Printing.{polled_before}
use Rattle.world_run.proofs.member.Member.poll.Goals as goal

pub returns-in_err-reply-clause-setup : goal.returns-in_err-reply-clause-setup
returns-in_err-reply-clause-setup c =
    kept_setup c.args.links.now (call.Poll c.args.number) c.args.self.now c.play.new.self
    (Err c.in_err-reply.field-0.0) c.in_err-reply.ensures

pub returns-in_err-line-clause-gives : goal.returns-in_err-line-clause-gives
returns-in_err-line-clause-gives c =
    let g = c.in_ok-reply.ensures in
    let p = err_from_is_err_and c.from_residual-in_err-line.result
    c.from_residual-in_err-line.ensures.1 in
    rw p.1 (rw p.2 (λ e r. turn_after e (seat c.args.links.now c.args.self.now r)
    (call.Poll c.args.number) c.play.new.self c.in_ok-reply.reply g.0 g.1 c.args.lines.now
    c.args.lines.now refl))

pub returns-in_err-put_line-clause-gives : goal.returns-in_err-put_line-clause-gives
returns-in_err-put_line-clause-gives c =
    let g = c.in_ok-reply.ensures in
    let p = err_from_is_err_and c.from_residual-in_err-put_line.result
    c.from_residual-in_err-put_line.ensures.1 in
    rw p.1 (rw p.2 (λ e r. turn_after e (seat c.args.links.now c.args.self.now r)
    (call.Poll c.args.number) c.play.new.self c.in_ok-reply.reply g.0 g.1 c.args.lines.now
    c.put_line.new.lines c.in_err-put_line.ensures.err))

pub returns-clause-gives : goal.returns-clause-gives
returns-clause-gives c =
    let m = c.play.new.self in
    let g = c.in_ok-reply.ensures in
    λ e r. let s = seat c.args.links.now c.args.self.now r in
    turn_ends e s (call.Poll c.args.number) m c.in_ok-reply.reply g.0 g.1 c.args.lines.now
    c.put_line.new.lines g.2
    (c.in_ok-put_line.ensures.ok
    ∙ ap (λ x. c.args.lines.now ++ x) (c.in_ok-line.ensures
    ∙ polled_before s c.args.number c.in_ok-reply.reply m g.0))
