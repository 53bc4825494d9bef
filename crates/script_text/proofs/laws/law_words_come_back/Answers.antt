use Rattle.script_text.proofs.Spelling.{words_come_back}
use Rattle.script_text.proofs.laws.law_words_come_back.Goals as goal

pub returns : goal.returns
returns c = words_come_back
