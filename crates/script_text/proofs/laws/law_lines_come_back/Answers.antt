use Rattle.script_text.proofs.Grammar.{lines_come_back}
use Rattle.script_text.proofs.laws.law_lines_come_back.Goals as goal

pub returns : goal.returns
returns c = lines_come_back
