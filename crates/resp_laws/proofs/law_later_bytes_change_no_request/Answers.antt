use Rattle.resp_stream.specs.Request.{request_begun}
use Rattle.resp_stream.proofs.RequestLaws.{reader_request}
use Rattle.resp_laws.proofs.Steadiness.{steady_begun, steady_requests}
use Rattle.resp_laws.proofs.law_later_bytes_change_no_request.Goals as goal

pub returns-clause-begun : goal.returns-clause-begun
returns-clause-begun c = steady_begun request_begun reader_request

pub returns-clause-under_the_limit : goal.returns-clause-under_the_limit
returns-clause-under_the_limit c = steady_requests
