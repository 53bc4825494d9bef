use Rattle.serial_model.proofs.laws.law_fresh_is_sent_nothing.Goals as goal
use Rattle.serial_model.proofs.Fresh.{sent_fresh}

pub returns : goal.returns
returns c = sent_fresh
