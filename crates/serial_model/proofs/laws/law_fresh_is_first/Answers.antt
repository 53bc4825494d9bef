use Rattle.serial_model.proofs.laws.law_fresh_is_first.Goals as goal
use Rattle.serial_model.proofs.Fresh.{fresh_is_first}

pub returns : goal.returns
returns c = fresh_is_first
