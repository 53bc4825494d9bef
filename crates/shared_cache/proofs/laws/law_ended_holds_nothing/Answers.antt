use Rattle.shared_cache.proofs.FetchLaws.{ended_holds_nothing}
use Rattle.shared_cache.proofs.laws.law_ended_holds_nothing.Goals as goal

pub returns : goal.returns
returns c = ended_holds_nothing
