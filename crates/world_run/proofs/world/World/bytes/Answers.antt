use Rattle.std.proofs.Common.{arith, refl}
use Rattle.script_text.specs.declared.event.Event.TheVariants as event
use Rattle.server_links.specs.LinkEvent.{Put}
use Rattle.world_run.specs.Members.{world}
use Rattle.world_run.specs.World.{StepGives, said_step, step}
use Rattle.world_run.specs.WorldState.{end_of_link}
use Rattle.world_run.proofs.WorldCode as code
use Rattle.world_run.proofs.world.World.bytes.Goals as goal
use Rattle.world_run.proofs.world.World.bytes.Goals.{After-put}

pub returns-then-is_some : goal.returns-then-is_some
unfolding step
returns-then-is_some c =
    let w = c.args.self.now in
    let name = c.args.name.now in
    let o = end_of_link name w.ends in
    code.no_name w (said_step o name c.args.bytes.now w) c.args.lines.now
    (grind arith)

gave : (c : After-put) → StepGives c.args.self.now
    (event.Bytes c.args.name.now c.args.bytes.now) c.args.lines.now c.put.result
    (world c.self.inside.log_max c.put.new.self c.self.inside.members.items
    c.self.inside.ends.items) c.put.new.lines
unfolding step
gave c =
    let i = c.self.inside in
    let w = c.args.self.now in
    let bytes = c.args.bytes.now in
    code.unowned i.log_max (λ o. said_step o c.args.name.now bytes w) c.args.name.now
    (Put c.args.name.now bytes) w i.links c.put.new.self i.members.items i.ends.items
    c.args.lines.now c.put.result c.put.new.lines c.self.view_is
    (grind arith) refl
    c.put.ensures

pub returns : goal.returns
returns c = gave (goal.at.returns c).After-put

pub invariant_of-self : goal.invariant_of-self
invariant_of-self c = (
  (code.still_over _ _ _ _ _ _ _ _ c.self.view_is
      (gave (goal.at.invariant_of-self c).After-put) c.self.invariant.0),
  c.self.invariant.1,
  c.self.invariant.2,
)
