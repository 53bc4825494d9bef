use Rattle.std.proofs.Common.{◌≡◌, Some, None, refl, sym, ap, subst, ◌∙◌, arith}
use Rattle.server_links.specs.declared.link.LinkMove.TheVariants as moves
use Rattle.server_links.specs.LinkEvent.{Over}
use Rattle.server_links.specs.LinksState.{at_place}
use Rattle.server_links.specs.Outcome.{Gives}
use Rattle.world_run.specs.ClientMoves as client
use Rattle.world_run.specs.Members.{world}
use Rattle.world_run.specs.World.{flow_at, flow_step}
use Rattle.world_run.specs.WorldState.{WorldState, end_of_link}
use Rattle.world_run.proofs.Linked.{over_kept}
use Rattle.world_run.proofs.Names.{end_there}
use Rattle.world_run.proofs.WorldCode as code
use Rattle.world_run.proofs.world.World.flow_at.Goals as goal
use Rattle.world_run.proofs.world.World.flow_at.Goals.{After-play_at}

pub flow_end-requires : goal.flow_end-requires
flow_end-requires c =
    let w = c.args.self.now in
    (end_there c.name_at.result.now w.ends c.in-Some.end
    (sym c.end_of_link.ensures ∙ c.in-Some.is)).0

pub returns-in-Some-clause-gives : goal.returns-in-Some-clause-gives
returns-in-Some-clause-gives c =
    let w = c.args.self.now in
    let name = (at_place w.links.links c.args.at).name in
    let called : c.name_at.result.now ≡ name =
    c.name_at.ensures ∙ ap (λ (v : WorldState). (at_place v.links.links c.args.at).name)
    c.self.view_is in
    let owner : end_of_link name w.ends ≡ Some c.in-Some.end =
    ap (λ n. end_of_link n w.ends) (sym called) ∙ sym c.end_of_link.ensures ∙ c.in-Some.is in
    code.owned (λ o. flow_step o name w) name client.flow w w c.in-Some.end c.args.lines.now
    c.flow_end.result c.flow_end.new.self c.flow_end.new.lines refl owner refl
    c.flow_end.ensures.gives

played : (c : After-play_at) → let i = c.self.inside in
    Gives (flow_at c.args.at (world i.log_max i.links i.members.items i.ends.items))
    c.args.lines.now c.play_at.result
    (world i.log_max c.play_at.new.self i.members.items i.ends.items) c.play_at.new.lines
played c =
    let i = c.self.inside in
    let w = world i.log_max i.links i.members.items i.ends.items in
    let name = (at_place i.links.links c.args.at).name in
    let none : end_of_link name i.ends.items ≡ None =
    ap (λ n. end_of_link n i.ends.items) (sym c.name_at.ensures)
    ∙ ap (λ (v : WorldState). end_of_link c.name_at.result.now v.ends) c.self.view_is
    ∙ sym c.end_of_link.ensures ∙ c.in-None.is in
    code.unowned i.log_max (λ o. flow_step o name w) name (Over name moves.Flow) w i.links
    c.play_at.new.self i.members.items i.ends.items c.args.lines.now c.play_at.result
    c.play_at.new.lines refl none refl c.play_at.ensures

pub returns-in-None-clause-gives : goal.returns-in-None-clause-gives
returns-in-None-clause-gives c =
    let i = c.self.inside in
    subst (λ (v : WorldState). Gives (flow_at c.args.at v) c.args.lines.now c.play_at.result
    (world i.log_max c.play_at.new.self i.members.items i.ends.items) c.play_at.new.lines)
    c.self.view_is (played (goal.at.returns-in-None-clause-gives c).After-play_at)

pub returns-in-None-clause-count : goal.returns-in-None-clause-count
returns-in-None-clause-count c = grind (arith, over_kept)

pub invariant_of-self : goal.invariant_of-self
invariant_of-self c = (
  (let i = c.self.inside in
      let name = (at_place i.links.links c.args.at).name in
      code.over_flow _ (end_of_link name i.ends.items) name _ _ _ _ _
      (played (goal.at.invariant_of-self c).After-play_at) c.self.invariant.0),
  c.self.invariant.1,
  c.self.invariant.2,
)
