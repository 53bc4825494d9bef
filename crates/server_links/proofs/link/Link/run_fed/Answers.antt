use Rattle.std.proofs.Common.{arith}
use Rattle.std.proofs.lemmas.Result.{err_from_is_err_and}
use Rattle.server_links.specs.Moves.{run_fed, run_requests}
use Rattle.server_links.specs.Session.{session}
use Rattle.server_links.proofs.Outcomes.{stops_first, gives_then}
use Rattle.server_links.proofs.link.Link.run_fed.Goals as goal

pub returns-in_err-fault : goal.returns-in_err-fault
unfolding run_fed
returns-in_err-fault c = grind (arith, err_from_is_err_and, stops_first)

pub returns : goal.returns
unfolding run_fed
returns c =
    let s = session c.args.server.now c.args.self.now in
    let s1 = session c.run_requests.new.server c.run_requests.new.self in
    gives_then (run_requests s) _ c.args.lines.now c.in_ok-fault.fault s1 c.run_requests.new.lines
    c.stop.result _ c.stop.new.lines c.in_ok-fault.ensures.gives
    (grind arith)
