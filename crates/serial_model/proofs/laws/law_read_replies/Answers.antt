use Rattle.serial_model.proofs.laws.law_read_replies.Goals as goal
use Rattle.serial_model.proofs.ReadLaws.{read_replies}

pub returns : goal.returns
returns c = read_replies
