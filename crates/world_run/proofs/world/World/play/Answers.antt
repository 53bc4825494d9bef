use Rattle.server_links.specs.LinkEvent.{Over}
use Rattle.world_run.specs.Members.{world}
use Rattle.world_run.proofs.WorldCode.{links_give, over_links}
use Rattle.world_run.proofs.world.World.play.Goals as goal
use Rattle.std.proofs.Common.{arith}

pub returns : goal.returns
returns c = grind (arith, links_give)

pub invariant_of-self : goal.invariant_of-self
invariant_of-self c = (
  (let i = c.self.inside in
      let event = Over c.args.name.now c.args.movement in
      over_links i.living c.args.name.now c.args.movement
      (world i.log_max i.links i.members.items i.ends.items)
      (world i.log_max c.play.new.self i.members.items i.ends.items) c.args.lines.now c.play.result
      c.play.new.lines
      (links_give i.log_max event i.links c.play.new.self i.members.items i.ends.items
      c.args.lines.now c.play.result c.play.new.lines c.play.ensures) c.self.invariant.0),
  c.self.invariant.1,
  c.self.invariant.2,
)
