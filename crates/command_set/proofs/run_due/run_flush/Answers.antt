use Rattle.std.proofs.Common.{arith}
use Rattle.command_set.proofs.Moves.{same_flush}
use Rattle.command_set.proofs.TakenBack.{new_in_step}
use Rattle.command_set.proofs.run_due.run_flush.Goals as goal

pub run_data-requires-clause-step : goal.run_data-requires-clause-step
run_data-requires-clause-step c = grind (arith, new_in_step)

pub returns-in-Ok-clause-turn : goal.returns-in-Ok-clause-turn
returns-in-Ok-clause-turn c = grind (arith, same_flush)
