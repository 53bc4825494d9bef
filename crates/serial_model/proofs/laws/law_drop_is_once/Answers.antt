use Rattle.serial_model.proofs.laws.law_drop_is_once.Goals as goal
use Rattle.serial_model.proofs.DropLaws.{drop_is_once}

pub returns : goal.returns
returns c = drop_is_once
