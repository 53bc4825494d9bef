use Rattle.script_text.proofs.Scripts.{script_lines_are_valid}
use Rattle.script_text.proofs.laws.law_script_lines_are_valid.Goals as goal

pub returns : goal.returns
returns c = script_lines_are_valid
