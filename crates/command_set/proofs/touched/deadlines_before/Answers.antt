use Rattle.std.proofs.Common.{arith}
use Rattle.command_set.proofs.Steps.{none_listed}
use Rattle.command_set.proofs.touched.deadlines_before.Goals as goal

pub returns-then-is_empty : goal.returns-then-is_empty
returns-then-is_empty c = grind (arith, none_listed)
