use Rattle.resp_laws.proofs.Answered.{only_requests}
use Rattle.resp_laws.proofs.law_only_requests_are_answered.Goals as goal

pub returns : goal.returns
returns c = only_requests
