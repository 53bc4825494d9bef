use Rattle.expiry.proofs.Fronts.{front_due}
use Rattle.expiry.proofs.block.Block.due.Goals as goal
use Rattle.std.proofs.Common.{arith}

pub returns-clause-due : goal.returns-clause-due
returns-clause-due c = grind (arith, front_due)
