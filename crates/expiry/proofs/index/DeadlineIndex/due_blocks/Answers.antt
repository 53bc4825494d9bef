use Rattle.std.proofs.Common.{arith}
use Rattle.expiry.proofs.Past.{due_begun, front_begun}
use Rattle.expiry.proofs.index.DeadlineIndex.due_blocks.Goals as goal

pub returns-clause-due : goal.returns-clause-due
returns-clause-due c = grind (arith, due_begun)

pub returns-clause-begun : goal.returns-clause-begun
returns-clause-begun c = λ i lt. grind (arith, front_begun)
