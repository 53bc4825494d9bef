use Rattle.fill_mark.proofs.Amongst.{marked_or}
use Rattle.fill_mark.proofs.marks.Marks.settle.Goals as goal
use Rattle.std.proofs.Common.{arith}

pub returns-clause-query : goal.returns-clause-query
returns-clause-query c = grind (arith, marked_or)
