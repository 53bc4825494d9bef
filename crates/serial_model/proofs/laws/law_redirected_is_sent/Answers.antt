use Rattle.serial_model.proofs.laws.law_redirected_is_sent.Goals as goal
use Rattle.serial_model.proofs.Redirected.{redirected_is_sent}

pub returns : goal.returns
returns c = redirected_is_sent
