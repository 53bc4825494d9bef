use Rattle.tracking_laws.proofs.law_told_exactly.Goals as goal
use Rattle.tracking_laws.proofs.Exactly.{told_exactly}

pub returns : goal.returns
returns c = told_exactly
