use Rattle.shared_cache.proofs.FetchLaws.{open_was_sent}
use Rattle.shared_cache.proofs.laws.law_open_was_sent.Goals as goal

pub returns : goal.returns
returns c = open_was_sent
