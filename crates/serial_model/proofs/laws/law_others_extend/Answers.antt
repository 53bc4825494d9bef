use Rattle.serial_model.proofs.laws.law_others_extend.Goals as goal
use Rattle.serial_model.proofs.Others.{others_extend}

pub returns : goal.returns
returns c = others_extend
