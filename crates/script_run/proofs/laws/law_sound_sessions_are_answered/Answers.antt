use Rattle.script_run.proofs.Complete.{sound_sessions_answer}
use Rattle.script_run.proofs.laws.law_sound_sessions_are_answered.Goals as goal

pub returns : goal.returns
returns c = sound_sessions_answer
