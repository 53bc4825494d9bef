use Rattle.std.proofs.Common.{arith}
use Rattle.expiry.proofs.Fronts.{nil_where_none, some_first}
use Rattle.expiry.proofs.index.DeadlineIndex.is_empty.Goals as goal

pub returns-in-Some : goal.returns-in-Some
returns-in-Some c = grind (arith, some_first)

pub returns-in-None : goal.returns-in-None
returns-in-None c = grind (arith, nil_where_none)
