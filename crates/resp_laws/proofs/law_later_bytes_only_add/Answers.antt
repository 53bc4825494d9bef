use Rattle.resp_laws.proofs.Longer.{requests_grow, values_grow}
use Rattle.resp_laws.proofs.law_later_bytes_only_add.Goals as goal

pub returns-clause-requests : goal.returns-clause-requests
returns-clause-requests c = requests_grow

pub returns-clause-values : goal.returns-clause-values
returns-clause-values c = values_grow
