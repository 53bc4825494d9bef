use Rattle.shared_cache.proofs.Bytes.{taken_within}
use Rattle.shared_cache.proofs.laws.law_taken_within.Goals as goal

pub returns : goal.returns
returns c = taken_within
