use Rattle.std.proofs.Common.{refl, sym, ◌∙◌}
use Rattle.script_text.specs.declared.event.Event.TheVariants as event
use Rattle.server_links.specs.declared.link.LinkMove.TheVariants as moves
use Rattle.server_links.specs.LinkEvent.{Over}
use Rattle.world_run.specs.ClientMoves as client
use Rattle.world_run.specs.Members.{world}
use Rattle.world_run.specs.World.{StepGives, flow_step, step}
use Rattle.world_run.proofs.Names.{end_there}
use Rattle.world_run.proofs.WorldCode as code
use Rattle.world_run.proofs.world.World.flow.Goals as goal
use Rattle.world_run.proofs.world.World.flow.Goals.{After-play}

pub flow_end-requires : goal.flow_end-requires
flow_end-requires c =
    let w = c.args.self.now in
    (end_there c.args.name.now w.ends c.in-Some.at (sym c.end_of_link.ensures ∙ c.in-Some.is)).0

pub returns-in-Some : goal.returns-in-Some
unfolding step
returns-in-Some c =
    let w = c.args.self.now in
    code.owned (λ o. flow_step o c.args.name.now w) c.args.name.now client.flow w w c.in-Some.at
    c.args.lines.now c.flow_end.result c.flow_end.new.self c.flow_end.new.lines refl
    (sym c.end_of_link.ensures ∙ c.in-Some.is) refl c.flow_end.ensures.gives

played : (c : After-play) → StepGives c.args.self.now (event.Flow c.args.name.now)
    c.args.lines.now c.play.result (world c.self.inside.log_max c.play.new.self
    c.self.inside.members.items c.self.inside.ends.items) c.play.new.lines
unfolding step
played c =
    let i = c.self.inside in
    let w = c.args.self.now in
    code.unowned i.log_max (λ o. flow_step o c.args.name.now w) c.args.name.now
    (Over c.args.name.now moves.Flow) w i.links c.play.new.self i.members.items i.ends.items
    c.args.lines.now c.play.result c.play.new.lines c.self.view_is
    (sym c.end_of_link.ensures ∙ c.in-None.is) refl c.play.ensures

pub returns-in-None : goal.returns-in-None
returns-in-None c = played (goal.at.returns-in-None c).After-play

pub invariant_of-self : goal.invariant_of-self
invariant_of-self c = (
  code.still_over _ _ _ _ _ _ _ _ c.self.view_is
      (played (goal.at.invariant_of-self c).After-play) c.self.invariant.0,
  c.self.invariant.1,
  c.self.invariant.2,
)
