use Rattle.std.proofs.Common.{arith}
use Rattle.command_set.proofs.TakenBack.{again_in_step}
use Rattle.command_set.proofs.prior.put_back_one.Goals as goal

pub returns-clause-step : goal.returns-clause-step
returns-clause-step c =
    grind (arith, again_in_step)
