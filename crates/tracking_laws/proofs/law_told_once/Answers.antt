use Rattle.tracking_laws.proofs.law_told_once.Goals as goal
use Rattle.tracking_laws.proofs.Told.{told_once}

pub returns : goal.returns
returns c = told_once
