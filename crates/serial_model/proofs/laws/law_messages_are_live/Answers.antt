use Rattle.serial_model.proofs.laws.law_messages_are_live.Goals as goal
use Rattle.serial_model.proofs.LiveMessages.{messages_are_live}

pub returns : goal.returns
returns c = messages_are_live
