use Rattle.world_run.proofs.History.{stays_in}
use Rattle.world_run.proofs.world.World.step.Goals as goal

pub returns-clause-history : goal.returns-clause-history
returns-clause-history c =
    stays_in c.law_one_history.ensures c.args.self.now c.args.event.now c.args.lines.now
    c.dispatch.result c.dispatch.new.self c.dispatch.new.lines c.requires c.dispatch.ensures
