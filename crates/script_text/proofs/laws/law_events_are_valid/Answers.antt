use Rattle.script_text.proofs.Valid.{events_are_valid}
use Rattle.script_text.proofs.laws.law_events_are_valid.Goals as goal

pub returns : goal.returns
returns c = events_are_valid
