use Rattle.script_text.proofs.Scripts.{script_lines_come_back}
use Rattle.script_text.proofs.laws.law_script_lines_come_back.Goals as goal

pub returns : goal.returns
returns c = script_lines_come_back
