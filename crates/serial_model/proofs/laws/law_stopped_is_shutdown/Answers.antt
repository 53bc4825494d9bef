use Rattle.serial_model.proofs.laws.law_stopped_is_shutdown.Goals as goal
use Rattle.serial_model.proofs.DropLaws.{stopped_is_shutdown}

pub returns : goal.returns
returns c = stopped_is_shutdown
