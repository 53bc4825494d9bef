use Rattle.serial_model.proofs.laws.law_broken_is_lost.Goals as goal
use Rattle.serial_model.proofs.Broken.{broken_is_lost}

pub returns : goal.returns
returns c = broken_is_lost
