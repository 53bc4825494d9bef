use Rattle.link_laws.proofs.Crossing.{read_was_sent}
use Rattle.link_laws.proofs.law_what_is_read_was_sent.Goals as goal

pub returns : goal.returns
returns c = read_was_sent
