use Rattle.std.proofs.Common.{◌≡◌, true, false, cond, append-nil, subst, sym, arith}
use Rattle.std.proofs.lemmas.Result.{err_from_is_err_and}
use Rattle.std.specs.declared.option.Option.TheVariants.{None}
use Rattle.shared_cache.specs.declared.log.ClientCall.TheVariants as call
use Rattle.server_links.specs.declared.link.LinkMove.TheVariants as moves
use Rattle.server_links.specs.Directions.{is_queued}
use Rattle.server_links.specs.LinkEvent.{Over}
use Rattle.server_links.specs.Outcome.{stays}
use Rattle.server_links.proofs.Outcomes.{Ends, after_ends, stops_first}
use Rattle.world_run.specs.ClientMoves.{receive_eof, turn}
use Rattle.world_run.specs.Members.{link_of, links_do, seat}
use Rattle.world_run.proofs.link_end.LinkEnd.receive_eof.Goals as goal

pub returns-in_err-over-clause-gives : goal.returns-in_err-over-clause-gives
unfolding receive_eof
returns-in_err-over-clause-gives c r =
    let s = seat c.args.links.now c.args.member.now r in
    let p = err_from_is_err_and c.from_residual.result c.from_residual.ensures.1 in
    rw p.1 (rw p.2
    (stops_first (links_do (Over c.args.self.now.link (moves.Recv None)) s) _ c.args.lines.now _ _ _
    (c.in_err-over.ensures.gives c.args.member.now r)))

pub returns-then-ends-clause-gives : goal.returns-then-ends-clause-gives
unfolding receive_eof
returns-then-ends-clause-gives c r =
    let e = c.args.self.now in
    let s = seat c.args.links.now c.args.member.now r in
    let t = seat c.over.new.links c.args.member.now r in
    let u = seat c.over.new.links c.end.new.member r in
    let q : is_queued (link_of e s).down.eof ≡ true = grind arith in
    after_ends (links_do (Over e.link (moves.Recv None)) s) _ c.args.lines.now t
    c.over.new.lines u c.over.new.lines (c.in_ok-over.ensures.gives c.args.member.now r)
    (subst (λ b. Ends (cond b (turn (call.End e.wire) e t) (stays t)) c.over.new.lines u
    c.over.new.lines) (sym q)
    (c.end.ensures.gives c.over.new.links r c.over.new.lines))

pub returns-else-ends-clause-gives : goal.returns-else-ends-clause-gives
unfolding receive_eof
returns-else-ends-clause-gives c r =
    let e = c.args.self.now in
    let s = seat c.args.links.now c.args.member.now r in
    let t = seat c.over.new.links c.args.member.now r in
    let q : is_queued (link_of e s).down.eof ≡ false = grind arith in
    after_ends (links_do (Over e.link (moves.Recv None)) s) _ c.args.lines.now t
    c.over.new.lines t c.over.new.lines (c.in_ok-over.ensures.gives c.args.member.now r)
    (subst (λ b. Ends (cond b (turn (call.End e.wire) e t) (stays t)) c.over.new.lines t
    c.over.new.lines) (sym q)
    (grind (arith, append-nil)))
