use Rattle.link_laws.proofs.SentMessages.{sent_is_well_formed}
use Rattle.link_laws.proofs.law_what_is_sent_is_well_formed.Goals as goal

pub returns : goal.returns
returns c = sent_is_well_formed
