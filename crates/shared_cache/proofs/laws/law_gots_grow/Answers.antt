use Rattle.std.proofs.Common.{arith}
use Rattle.shared_cache.proofs.laws.law_gots_grow.Goals as goal

pub returns : goal.returns
returns c = grind arith
