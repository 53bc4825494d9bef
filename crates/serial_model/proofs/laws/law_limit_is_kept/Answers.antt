use Rattle.serial_model.proofs.laws.law_limit_is_kept.Goals as goal
use Rattle.serial_model.proofs.DropLaws.{limit_is_kept}

pub returns : goal.returns
returns c = limit_is_kept
