use Rattle.shared_cache.proofs.CommandLists.{replies_are_gots}
use Rattle.shared_cache.proofs.laws.law_replies_are_gots.Goals as goal

pub returns : goal.returns
returns c = replies_are_gots
