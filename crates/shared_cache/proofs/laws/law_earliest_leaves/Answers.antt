use Rattle.shared_cache.proofs.Capacity.{earliest_leaves}
use Rattle.shared_cache.proofs.laws.law_earliest_leaves.Goals as goal

pub returns : goal.returns
returns c = earliest_leaves
