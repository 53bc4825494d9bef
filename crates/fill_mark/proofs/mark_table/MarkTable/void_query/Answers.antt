use Rattle.std.proofs.Common.{arith}
use Rattle.fill_mark.proofs.Indexed.{indexed_filter}
use Rattle.fill_mark.proofs.mark_table.MarkTable.void_query.Goals as goal

pub invariant_of-self : goal.invariant_of-self
invariant_of-self c = grind (arith, indexed_filter)
