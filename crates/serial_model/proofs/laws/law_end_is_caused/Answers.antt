use Rattle.serial_model.proofs.laws.law_end_is_caused.Goals as goal
use Rattle.serial_model.proofs.DropLaws.{end_is_caused}

pub returns : goal.returns
returns c = end_is_caused
