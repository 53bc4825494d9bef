use Rattle.shared_cache.proofs.SideFirstLaw.{side_first}
use Rattle.shared_cache.proofs.laws.law_side_first.Goals as goal

pub returns : goal.returns
returns c = side_first
