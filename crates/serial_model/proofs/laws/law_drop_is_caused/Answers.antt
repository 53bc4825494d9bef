use Rattle.serial_model.proofs.laws.law_drop_is_caused.Goals as goal
use Rattle.serial_model.proofs.DropLaws.{drop_is_caused}

pub returns : goal.returns
returns c = drop_is_caused
