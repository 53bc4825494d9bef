use Rattle.shared_cache.proofs.CommandLaws.{no_control}
use Rattle.shared_cache.proofs.laws.law_no_control.Goals as goal

pub returns : goal.returns
returns c = no_control
