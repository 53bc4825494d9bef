use Rattle.std.proofs.Common.{arith}
use Rattle.std.proofs.lemmas.Result.{err_from_is_err_and}
use Rattle.server_links.specs.Session.{session}
use Rattle.server_links.proofs.Playing.{stop_before, stop_gives}
use Rattle.server_links.proofs.link.Link.stop_open.Goals as goal

pub returns-in_err-copy-in-Some : goal.returns-in_err-copy-in-Some
returns-in_err-copy-in-Some c =
    let p = err_from_is_err_and c.from_residual.result c.from_residual.ensures.1 in
    rw p.1 (rw p.2 (stop_before c.args.fault _ c.args.eof
    (session c.args.server.now c.args.self.now) c.args.lines.now c.in-Some.is))

pub returns-in_err-push-in-Some : goal.returns-in_err-push-in-Some
returns-in_err-push-in-Some c =
    let p = err_from_is_err_and c.from_residual-in_err-push-in-Some.result
    c.from_residual-in_err-push-in-Some.ensures.1 in
    rw p.1 (rw p.2 (rw c.in_err-push-in-Some.ensures.err
    (stop_before c.args.fault _ c.args.eof (session c.args.server.now c.args.self.now)
    c.args.lines.now c.in-Some.is)))

pub returns-in_ok-push-in-Some : goal.returns-in_ok-push-in-Some
returns-in_ok-push-in-Some c = grind (arith, stop_gives)
