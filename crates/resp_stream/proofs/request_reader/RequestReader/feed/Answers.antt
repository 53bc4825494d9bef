use Rattle.resp_stream.proofs.RequestFaults.{fed_by}
use Rattle.resp_stream.proofs.request_reader.RequestReader.feed.Goals as goal
use Rattle.std.proofs.Common.{arith}

pub invariant_of-self : goal.invariant_of-self
invariant_of-self c = grind (arith, fed_by)
