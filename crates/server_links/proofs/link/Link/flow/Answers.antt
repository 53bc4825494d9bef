use Rattle.std.proofs.lemmas.Result.{err_from_is_err_and}
use Rattle.server_links.specs.Moves.{flow, receive_all, send_all, serve_all}
use Rattle.server_links.specs.Session.{session}
use Rattle.server_links.proofs.Outcomes.{stops_first, after_stops, gives_then}
use Rattle.server_links.proofs.link.Link.flow.Goals as goal
use Rattle.std.proofs.Common.{arith}

pub returns-in_err-serve_all : goal.returns-in_err-serve_all
unfolding flow
returns-in_err-serve_all c = grind (arith, err_from_is_err_and, stops_first)

pub returns-in_err-send_all : goal.returns-in_err-send_all
unfolding flow
returns-in_err-send_all c =
    let s = session c.args.server.now c.args.self.now in
    let s1 = session c.serve_all.new.server c.serve_all.new.self in
    let p = err_from_is_err_and c.from_residual-in_err-send_all.result
    c.from_residual-in_err-send_all.ensures.1 in
    rw p.1 (rw p.2
    (after_stops (serve_all s) _ c.args.lines.now s1 c.serve_all.new.lines _ _ _
    c.in_ok-serve_all.ensures
    (stops_first (send_all s1) receive_all c.serve_all.new.lines _ _ _ c.in_err-send_all.ensures)))

pub returns : goal.returns
unfolding flow
returns c =
    let s = session c.args.server.now c.args.self.now in
    let s1 = session c.serve_all.new.server c.serve_all.new.self in
    let s2 = session c.send_all.new.server c.send_all.new.self in
    gives_then (serve_all s) _ c.args.lines.now (tt {0}) s1 c.serve_all.new.lines
    c.receive_all.result _ c.receive_all.new.lines c.in_ok-serve_all.ensures
    (gives_then (send_all s1) receive_all c.serve_all.new.lines (tt {0}) s2 c.send_all.new.lines
    c.receive_all.result _ c.receive_all.new.lines c.in_ok-send_all.ensures
    (c.receive_all.ensures s2))
