use Rattle.tracking_laws.proofs.law_told_is_asked.Goals as goal
use Rattle.tracking_laws.proofs.Told.{told_is_asked}

pub returns : goal.returns
returns c = told_is_asked
