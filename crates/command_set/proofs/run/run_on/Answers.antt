use Rattle.std.proofs.Common.{arith}
use Rattle.command_set.proofs.Steps.{as_before, stepped}
use Rattle.command_set.proofs.run.run_on.Goals as goal

pub returns-clause-step : goal.returns-clause-step
returns-clause-step c = grind (arith, stepped)

pub returns-clause-err : goal.returns-clause-err
returns-clause-err c = grind (arith, as_before, stepped)
