use Rattle.tracking_laws.proofs.law_oldest_are_dropped.Goals as goal
use Rattle.tracking_laws.proofs.Drops.{drops_oldest}

pub returns : goal.returns
returns c = drops_oldest
