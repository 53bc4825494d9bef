use Rattle.serial_model.proofs.laws.law_change_is_signalled.Goals as goal
use Rattle.serial_model.proofs.ReadLaws.{change_is_signalled}

pub returns : goal.returns
returns c = change_is_signalled c.law_replies_are_of_keys_read.ensures
