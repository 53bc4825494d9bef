use Rattle.serial_model.proofs.laws.law_told_ends_for_cause.Goals as goal
use Rattle.serial_model.proofs.OwedLaws.{told_ends_for_cause}

pub returns : goal.returns
returns c = told_ends_for_cause
