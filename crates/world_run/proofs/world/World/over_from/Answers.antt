use Rattle.std.proofs.Common.{arith}
use Rattle.world_run.proofs.world.World.over_from.Goals as goal

pub returns-then-is_over-clause-over : goal.returns-then-is_over-clause-over
returns-then-is_over-clause-over c k order below = grind arith
