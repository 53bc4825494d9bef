use Rattle.script_text.proofs.Storms.{storms_are_valid}
use Rattle.script_text.proofs.laws.law_storms_are_valid.Goals as goal

pub returns : goal.returns
returns c = storms_are_valid
