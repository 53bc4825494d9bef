use Rattle.serial_model.proofs.laws.law_read_is_owed_or_told.Goals as goal
use Rattle.serial_model.proofs.OwedLaws.{read_is_owed_or_told}

pub returns : goal.returns
returns c = read_is_owed_or_told
