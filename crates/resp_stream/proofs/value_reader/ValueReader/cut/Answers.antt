use Rattle.std.proofs.Common.{arith}
use Rattle.resp_stream.proofs.ReaderFaults.{none_is}
use Rattle.resp_stream.proofs.ValueFaults.{fresh}
use Rattle.resp_stream.proofs.value_reader.ValueReader.cut.Goals as goal

pub invariant_of-self-2 : goal.invariant_of-self-2
invariant_of-self-2 c =
    let r = c.reset.ensures in
    fresh c.cut.new.self c.reset.new.self r.at r.room r.seen r.stack (grind (arith, none_is))
