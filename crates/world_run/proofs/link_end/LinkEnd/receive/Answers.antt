use Rattle.std.proofs.Common.{◌≡◌, ap, subst, ◌∙◌}
use Rattle.std.proofs.lemmas.Result.{err_from_is_err_and}
use Rattle.shared_cache.specs.declared.log.Wire.TheVariants.{Main}
use Rattle.shared_cache.specs.Log.{is_ended}
use Rattle.server_links.specs.Outcome.{Gives}
use Rattle.server_links.proofs.Outcomes.{gives_then, stops_first}
use Rattle.world_run.specs.ClientMoves.{hang_up_main, has_ended, read, receive}
use Rattle.world_run.specs.Members.{seat}
use Rattle.world_run.specs.WorldState.{MemberState}
use Rattle.world_run.proofs.link_end.LinkEnd.receive.Goals as goal

pub returns-in_err-read-clause-gives : goal.returns-in_err-read-clause-gives
unfolding receive
returns-in_err-read-clause-gives c =
    let s = seat c.args.links.now c.args.member.now c.args.reader.now in
    let p = err_from_is_err_and c.from_residual.result c.from_residual.ensures.1 in
    rw p.1 (rw p.2
    (stops_first (read c.args.count c.args.self.now s) _ c.args.lines.now _ _ _
    c.in_err-read.ensures.gives))

pub returns-clause-gives : goal.returns-clause-gives
unfolding receive
returns-clause-gives c =
    let e = c.args.self.now in
    let r = c.read.new.reader in
    let s = seat c.args.links.now c.args.member.now c.args.reader.now in
    let s1 = seat c.read.new.links c.read.new.member r in
    let t = seat c.hang_up_main.new.links c.read.new.member r in
    let before : c.has_ended-before.result ≡ has_ended Main s =
    c.has_ended-before.ensures
    ∙ ap (λ (m : MemberState). is_ended m.state.setup.mode Main m.state.past) c.member.view_is in
    gives_then (read c.args.count e s) (hang_up_main e.wire (has_ended Main s)) c.args.lines.now
    (tt {0}) s1 c.read.new.lines c.hang_up_main.result t c.hang_up_main.new.lines
    c.in_ok-read.ensures.gives
    (subst (λ b. Gives (hang_up_main e.wire b s1) c.read.new.lines c.hang_up_main.result t
    c.hang_up_main.new.lines) before (c.hang_up_main.ensures.gives r))
