use Rattle.serial_model.proofs.laws.law_sent_grows.Goals as goal
use Rattle.serial_model.proofs.EntryLaws.{sent_grows}

pub returns : goal.returns
returns c = sent_grows
