use Rattle.serial_model.proofs.laws.law_next_after_mark.Goals as goal
use Rattle.serial_model.proofs.Marks.{next_after_mark}

pub returns : goal.returns
returns c = next_after_mark
