use Rattle.serial_model.proofs.laws.law_end_is_last.Goals as goal
use Rattle.serial_model.proofs.Ends.{end_is_last}

pub returns : goal.returns
returns c = end_is_last
