use Rattle.world_run.proofs.world.World.count.Goals as goal
use Rattle.std.proofs.Common.{arith}

pub returns-clause-apart : goal.returns-clause-apart
returns-clause-apart c = grind arith
