use Rattle.resp_laws.proofs.Trees.{written_values}
use Rattle.resp_laws.proofs.law_a_written_value_is_read.Goals as goal

pub returns : goal.returns
returns c = written_values
