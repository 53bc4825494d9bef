use Rattle.script_text.proofs.Grammar.{events_come_back}
use Rattle.script_text.proofs.laws.law_events_come_back.Goals as goal

pub returns : goal.returns
returns c = events_come_back
