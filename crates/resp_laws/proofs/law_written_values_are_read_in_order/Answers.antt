use Rattle.resp_laws.proofs.Spelled.{values_in_order}
use Rattle.resp_laws.proofs.law_written_values_are_read_in_order.Goals as goal

pub returns : goal.returns
returns c = values_in_order
