use Rattle.std.proofs.lemmas.Result.{err_from_is_err_and}
use Rattle.std.specs.declared.option.Option.TheVariants.{None}
use Rattle.server_links.specs.declared.link.LinkMove.TheVariants as moves
use Rattle.server_links.specs.LinkEvent.{Over}
use Rattle.server_links.proofs.Outcomes.{after_stops, gives_then, stops_first}
use Rattle.world_run.specs.ClientMoves.{flow, out, receive}
use Rattle.world_run.specs.Members.{links_do, seat}
use Rattle.world_run.proofs.link_end.LinkEnd.flow.Goals as goal

pub returns-in_err-out-clause-gives : goal.returns-in_err-out-clause-gives
unfolding flow
returns-in_err-out-clause-gives c =
    let s = seat c.args.links.now c.args.member.now c.args.reader.now in
    let p = err_from_is_err_and c.from_residual.result c.from_residual.ensures.1 in
    rw p.1 (rw p.2
    (stops_first (out None c.args.self.now s) _ c.args.lines.now _ _ _
    (c.in_err-out.ensures.gives c.args.reader.now)))

pub returns-in_err-over-clause-gives : goal.returns-in_err-over-clause-gives
unfolding flow
returns-in_err-over-clause-gives c =
    let e = c.args.self.now in
    let r = c.args.reader.now in
    let m = c.out.new.member in
    let s = seat c.args.links.now c.args.member.now r in
    let s1 = seat c.out.new.links m r in
    let p = err_from_is_err_and c.from_residual-in_err-over.result
    c.from_residual-in_err-over.ensures.1 in
    rw p.1 (rw p.2
    (after_stops (out None e s) _ c.args.lines.now s1 c.out.new.lines _ _ _
    (c.in_ok-out.ensures.gives r)
    (stops_first (links_do (Over e.link (moves.Serve None)) s1) _ c.out.new.lines _ _ _
    (c.in_err-over.ensures.gives m r))))

pub returns-in_err-over-2-clause-gives : goal.returns-in_err-over-2-clause-gives
unfolding flow
returns-in_err-over-2-clause-gives c =
    let e = c.args.self.now in
    let r = c.args.reader.now in
    let m = c.out.new.member in
    let s = seat c.args.links.now c.args.member.now r in
    let s1 = seat c.out.new.links m r in
    let s2 = seat c.over.new.links m r in
    let p = err_from_is_err_and c.from_residual-in_err-over-2.result
    c.from_residual-in_err-over-2.ensures.1 in
    rw p.1 (rw p.2
    (after_stops (out None e s) _ c.args.lines.now s1 c.out.new.lines _ _ _
    (c.in_ok-out.ensures.gives r)
    (after_stops (links_do (Over e.link (moves.Serve None)) s1) _ c.out.new.lines s2
    c.over.new.lines _ _ _ (c.in_ok-over.ensures.gives m r)
    (stops_first (links_do (Over e.link (moves.Send None)) s2) (receive None e) c.over.new.lines
    _ _ _ (c.in_err-over-2.ensures.gives m r)))))

pub returns-clause-gives : goal.returns-clause-gives
unfolding flow
returns-clause-gives c =
    let e = c.args.self.now in
    let r = c.args.reader.now in
    let m = c.out.new.member in
    let s = seat c.args.links.now c.args.member.now r in
    let s1 = seat c.out.new.links m r in
    let s2 = seat c.over.new.links m r in
    let s3 = seat c.over-2.new.links m r in
    gives_then (out None e s) _ c.args.lines.now (tt {0}) s1 c.out.new.lines c.receive.result _
    c.receive.new.lines (c.in_ok-out.ensures.gives r)
    (gives_then (links_do (Over e.link (moves.Serve None)) s1) _ c.out.new.lines (tt {0}) s2
    c.over.new.lines c.receive.result _ c.receive.new.lines (c.in_ok-over.ensures.gives m r)
    (gives_then (links_do (Over e.link (moves.Send None)) s2) (receive None e) c.over.new.lines
    (tt {0}) s3 c.over-2.new.lines c.receive.result _ c.receive.new.lines
    (c.in_ok-over-2.ensures.gives m r) c.receive.ensures.gives))
