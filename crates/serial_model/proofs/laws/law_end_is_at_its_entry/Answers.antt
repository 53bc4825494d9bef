use Rattle.serial_model.proofs.laws.law_end_is_at_its_entry.Goals as goal
use Rattle.serial_model.proofs.Ends.{end_is_at_its_entry}

pub returns : goal.returns
returns c = end_is_at_its_entry
