use Rattle.serial_model.proofs.laws.law_stopped_has_ended.Goals as goal
use Rattle.serial_model.proofs.DropLaws.{stopped_has_ended}

pub returns : goal.returns
returns c = stopped_has_ended
