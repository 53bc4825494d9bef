use Rattle.shared_cache.proofs.CommandLaws.{no_later_write}
use Rattle.shared_cache.proofs.laws.law_no_later_write.Goals as goal

pub returns : goal.returns
returns c = no_later_write
