use Rattle.serial_model.proofs.laws.law_told_is_due.Goals as goal
use Rattle.serial_model.proofs.ToldLaws.{told_is_due}

pub returns : goal.returns
returns c = told_is_due
