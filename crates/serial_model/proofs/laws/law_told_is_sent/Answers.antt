use Rattle.serial_model.proofs.laws.law_told_is_sent.Goals as goal
use Rattle.serial_model.proofs.DueLaws.{told_is_sent}

pub returns : goal.returns
returns c = told_is_sent
