use Rattle.shared_cache.proofs.FetchLaws.{mark_before_read}
use Rattle.shared_cache.proofs.laws.law_mark_before_read.Goals as goal

pub returns : goal.returns
returns c = mark_before_read
