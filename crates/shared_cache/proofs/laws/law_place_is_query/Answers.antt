use Rattle.shared_cache.proofs.FetchLaws.{place_is_query}
use Rattle.shared_cache.proofs.laws.law_place_is_query.Goals as goal

pub returns : goal.returns
returns c = place_is_query
