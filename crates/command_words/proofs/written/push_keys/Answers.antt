use Rattle.command_words.proofs.PairKeys.{next_key}
use Rattle.command_words.proofs.written.push_keys.Goals as goal
use Rattle.std.proofs.Common.{arith}

pub pairs-preserved : goal.pairs-preserved
pairs-preserved c = grind (arith, next_key)
