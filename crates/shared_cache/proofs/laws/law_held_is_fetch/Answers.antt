use Rattle.shared_cache.proofs.FetchLaws.{held_is_fetch}
use Rattle.shared_cache.proofs.laws.law_held_is_fetch.Goals as goal

pub returns : goal.returns
returns c = held_is_fetch
