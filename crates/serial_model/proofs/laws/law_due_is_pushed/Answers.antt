use Rattle.serial_model.proofs.laws.law_due_is_pushed.Goals as goal
use Rattle.serial_model.proofs.DueLaws.{due_is_pushed}

pub returns : goal.returns
returns c = due_is_pushed
