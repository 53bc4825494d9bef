use Rattle.serial_model.proofs.laws.law_legal_is_added.Goals as goal
use Rattle.serial_model.proofs.Turning.{legal_is_added}

pub returns : goal.returns
returns c = legal_is_added
