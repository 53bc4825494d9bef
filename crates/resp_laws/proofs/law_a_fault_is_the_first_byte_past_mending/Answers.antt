use Rattle.resp_stream.specs.Request.{request_begun}
use Rattle.resp_stream.specs.Value.{value_in}
use Rattle.resp_stream.proofs.RequestLaws.{reader_request}
use Rattle.resp_stream.proofs.ValueLaws.{reader_value}
use Rattle.resp_laws.proofs.Steadiness.{first_fault}
use Rattle.resp_laws.proofs.law_a_fault_is_the_first_byte_past_mending.Goals as goal

pub returns-clause-requests : goal.returns-clause-requests
returns-clause-requests c = first_fault request_begun reader_request

pub returns-clause-values : goal.returns-clause-values
returns-clause-values c = first_fault (value_in 8) (reader_value 8)
