use Rattle.serial_model.proofs.laws.law_reset_renews.Goals as goal
use Rattle.serial_model.proofs.Resets.{reset_renews}

pub returns : goal.returns
returns c = reset_renews
