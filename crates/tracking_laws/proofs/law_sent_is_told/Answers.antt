use Rattle.tracking_laws.proofs.law_sent_is_told.Goals as goal
use Rattle.tracking_laws.proofs.Sent.{only_answered, sent_is_told}

pub returns-clause-told : goal.returns-clause-told
returns-clause-told c = sent_is_told

pub returns-clause-answered : goal.returns-clause-answered
returns-clause-answered c = only_answered
