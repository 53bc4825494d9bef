use Rattle.fill_mark.proofs.Amongst.{marked_or}
use Rattle.fill_mark.proofs.Found.{none_found}
use Rattle.fill_mark.proofs.marks.Marks.query_of.Goals as goal
use Rattle.std.proofs.Common.{arith}

pub returns-in-Some-clause-query : goal.returns-in-Some-clause-query
returns-in-Some-clause-query c = grind (arith, marked_or)

pub returns-in-None-clause-query : goal.returns-in-None-clause-query
returns-in-None-clause-query c = grind (arith, marked_or)

pub returns-in-None-clause-none : goal.returns-in-None-clause-none
returns-in-None-clause-none c = grind (arith, none_found, marked_or)
