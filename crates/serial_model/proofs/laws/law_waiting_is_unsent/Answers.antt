use Rattle.serial_model.proofs.laws.law_waiting_is_unsent.Goals as goal
use Rattle.serial_model.proofs.Streams.{waiting_is_unsent}

pub returns : goal.returns
returns c = waiting_is_unsent
