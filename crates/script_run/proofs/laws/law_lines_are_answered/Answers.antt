use Rattle.script_run.proofs.Answering.{lines_are_answered}
use Rattle.script_run.proofs.laws.law_lines_are_answered.Goals as goal

pub returns : goal.returns
returns c = lines_are_answered
