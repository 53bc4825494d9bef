use Rattle.std.proofs.Common.{subst}
use Rattle.std.proofs.lemmas.Result.{err_from_is_err_and}
use Rattle.server_links.specs.Outcome.{Gives}
use Rattle.server_links.proofs.Items.{read_all}
use Rattle.server_links.proofs.Outcomes.{gives_then, stops_first}
use Rattle.world_run.specs.ClientMoves.{read_values, stop}
use Rattle.world_run.specs.Members.{seat}
use Rattle.world_run.proofs.Received.{values}
use Rattle.world_run.proofs.link_end.LinkEnd.read_values.Goals as goal

pub returns-in_err-fault-clause-gives : goal.returns-in_err-fault-clause-gives
unfolding read_values
returns-in_err-fault-clause-gives c =
    let s = seat c.args.links.now c.args.member.now c.args.reader.now in
    let p = err_from_is_err_and c.from_residual.result c.from_residual.ensures.1 in
    rw p.1 (rw p.2
    (stops_first (read_all (values c.args.self.now) s) _ c.args.lines.now _ _ _
    c.in_err-fault.ensures.gives))

pub returns-clause-gives : goal.returns-clause-gives
unfolding read_values
returns-clause-gives c =
    let e = c.args.self.now in
    let ls = c.args.links.now in
    let r = c.got_all.new.reader in
    let s = seat ls c.args.member.now c.args.reader.now in
    let s1 = seat ls c.got_all.new.member r in
    let t = seat ls c.stop.new.member r in
    gives_then (read_all (values e) s) _ c.args.lines.now c.in_ok-fault.fault s1 c.got_all.new.lines
    c.stop.result t c.stop.new.lines c.in_ok-fault.ensures.gives
    (subst (λ f. Gives (stop f e s1) c.got_all.new.lines c.stop.result t c.stop.new.lines)
    c.in_ok-fault.ensures.fault (c.stop.ensures.gives r))
