use Rattle.resp_laws.proofs.Given.{whole_requests, whole_values}
use Rattle.resp_laws.proofs.law_what_is_whole_is_answered.Goals as goal

pub returns-clause-values : goal.returns-clause-values
returns-clause-values c = whole_values

pub returns-clause-requests : goal.returns-clause-requests
returns-clause-requests c = whole_requests
