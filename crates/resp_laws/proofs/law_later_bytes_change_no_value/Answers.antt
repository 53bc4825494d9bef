use Rattle.resp_stream.specs.Value.{value_in}
use Rattle.resp_stream.proofs.ValueLaws.{reader_value}
use Rattle.resp_laws.proofs.Steadiness.{steady_begun, steady_values}
use Rattle.resp_laws.proofs.law_later_bytes_change_no_value.Goals as goal

pub returns-clause-begun : goal.returns-clause-begun
returns-clause-begun c = steady_begun (value_in 8) (reader_value 8)

pub returns-clause-under_the_limit : goal.returns-clause-under_the_limit
returns-clause-under_the_limit c = steady_values
