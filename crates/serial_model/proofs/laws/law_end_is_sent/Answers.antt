use Rattle.serial_model.proofs.laws.law_end_is_sent.Goals as goal
use Rattle.serial_model.proofs.Ends.{end_is_sent}

pub returns : goal.returns
returns c = end_is_sent
