use Rattle.command_words.proofs.QueryWords.{query_again}
use Rattle.command_words.proofs.query.Query.read.Goals as goal
use Rattle.std.proofs.Common.{arith}

pub invariant_of-result : goal.invariant_of-result
invariant_of-result c = grind (arith, query_again)
