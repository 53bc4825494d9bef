use Rattle.script_text.proofs.Storms.{storms_grow}
use Rattle.script_text.proofs.laws.law_storms_grow.Goals as goal

pub returns : goal.returns
returns c = storms_grow
