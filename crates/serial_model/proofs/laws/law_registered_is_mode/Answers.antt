use Rattle.serial_model.proofs.laws.law_registered_is_mode.Goals as goal
use Rattle.serial_model.proofs.Registered.{registered_is_mode}

pub returns : goal.returns
returns c = registered_is_mode
