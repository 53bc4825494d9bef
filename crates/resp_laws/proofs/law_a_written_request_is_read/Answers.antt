use Rattle.resp_laws.proofs.Written.{written}
use Rattle.resp_laws.proofs.law_a_written_request_is_read.Goals as goal

pub returns : goal.returns
returns c = written
