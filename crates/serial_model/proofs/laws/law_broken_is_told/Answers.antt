use Rattle.serial_model.proofs.laws.law_broken_is_told.Goals as goal
use Rattle.serial_model.proofs.Notices.{broken_is_told}

pub returns : goal.returns
returns c = broken_is_told
