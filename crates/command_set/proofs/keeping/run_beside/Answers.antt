use Rattle.std.proofs.Common.{arith}
use Rattle.command_set.proofs.KeptBack.{kept_back}
use Rattle.command_set.proofs.keeping.run_beside.Goals as goal

pub returns-clause-back : goal.returns-clause-back
returns-clause-back c = grind (arith, kept_back)
