use Rattle.shared_cache.proofs.Capacity.{within_capacity}
use Rattle.shared_cache.proofs.laws.law_within_capacity.Goals as goal

pub returns : goal.returns
returns c = within_capacity
