use Rattle.link_laws.proofs.Crossing.{heard_was_commanded}
use Rattle.link_laws.proofs.law_what_is_heard_was_commanded.Goals as goal

pub returns : goal.returns
returns c = heard_was_commanded
