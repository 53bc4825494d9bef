use Rattle.resp_laws.proofs.Requests.{requests_in_order}
use Rattle.resp_laws.proofs.law_written_requests_are_read_in_order.Goals as goal

pub returns : goal.returns
returns c = requests_in_order
