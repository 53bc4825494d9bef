use Rattle.std.proofs.Common.{◌≡◌, Bool, true, false, ap, subst, ◌∙◌, arith}
use Rattle.shared_cache.specs.declared.log.Wire.TheVariants.{Main, Side}
use Rattle.server_links.specs.declared.link.LinkMove.TheVariants as moves
use Rattle.server_links.specs.LinkEvent.{Over}
use Rattle.server_links.specs.Outcome.{Gives}
use Rattle.world_run.specs.ClientMoves.{hang_up_main, has_ended}
use Rattle.world_run.specs.Members.{Seat, links_do, seat}
use Rattle.world_run.specs.WorldState.{LinkEnd, MemberState, link_on}
use Rattle.world_run.proofs.Linked.{links_give, over_kept}
use Rattle.world_run.proofs.link_end.LinkEnd.hang_up_main.Goals as goal

hung : (e : LinkEnd) (s : Seat) (before : Bool) → e.wire ≡ Side → before ≡ false
    → has_ended Main s ≡ true
    → links_do (Over (link_on Main s.member.name) moves.HangUp) s ≡ hang_up_main e.wire before s
hung e s before side off on = grind arith

pub returns-else-not-has_ended-clause-gives : goal.returns-else-not-has_ended-clause-gives
returns-else-not-has_ended-clause-gives c r =
    let e = c.args.self.now in
    let ls = c.args.links.now in
    let m = c.args.member.now in
    let s = seat ls m r in
    let t = seat c.play.new.self m r in
    let link = c.member.invariant.4
    ∙ ap (λ (m : MemberState). link_on Main m.name) c.member.view_is in
    subst (λ o. Gives o c.args.lines.now c.play.result t c.play.new.lines)
    (hung e s c.args.before (grind arith) (grind arith) (grind arith))
    (subst (λ l. Gives (links_do (Over l moves.HangUp) s) c.args.lines.now c.play.result t
    c.play.new.lines) link
    (links_give ls c.play.new.self m r (Over c.member.inside.link moves.HangUp) c.args.lines.now
    c.play.result c.play.new.lines c.play.ensures))

pub returns-else-not-has_ended-clause-limits : goal.returns-else-not-has_ended-clause-limits
returns-else-not-has_ended-clause-limits c = grind (arith, over_kept)

pub returns-else-not-has_ended-clause-count : goal.returns-else-not-has_ended-clause-count
returns-else-not-has_ended-clause-count c = grind (arith, over_kept)
