use Rattle.resp_stream.specs.Request.{request_begun}
use Rattle.resp_stream.specs.Value.{value_in}
use Rattle.resp_stream.proofs.RequestLaws.{reader_request}
use Rattle.resp_stream.proofs.ValueLaws.{reader_value}
use Rattle.resp_laws.proofs.Steadiness.{unfinished}
use Rattle.resp_laws.proofs.law_what_is_unfinished_can_be_finished.Goals as goal

pub returns-clause-requests : goal.returns-clause-requests
returns-clause-requests c = unfinished request_begun reader_request

pub returns-clause-values : goal.returns-clause-values
returns-clause-values c = unfinished (value_in 8) (reader_value 8)
