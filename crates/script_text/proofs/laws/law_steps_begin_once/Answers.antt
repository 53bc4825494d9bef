use Rattle.script_text.proofs.Storms.{steps_begin_once}
use Rattle.script_text.proofs.laws.law_steps_begin_once.Goals as goal

pub returns : goal.returns
returns c = steps_begin_once
