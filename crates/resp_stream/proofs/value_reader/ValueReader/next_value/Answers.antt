use Rattle.std.proofs.Common.{arith}
use Rattle.resp_stream.proofs.ValueFaults.{fresh, answers, keeps}
use Rattle.resp_stream.proofs.value_reader.ValueReader.next_value.Goals as goal

pub invariant_of-self-in-Ok-Whole : goal.invariant_of-self-in-Ok-Whole
invariant_of-self-in-Ok-Whole c =
    let r = c.reset.ensures in
    fresh c.pass.new.self c.reset.new.self r.at r.room r.seen r.stack
    (grind arith)

pub invariant_of-self-in-Err : goal.invariant_of-self-in-Err
invariant_of-self-in-Err c = grind (arith, fresh)

pub invariant_of-self-in-Ok-Faulty : goal.invariant_of-self-in-Ok-Faulty
invariant_of-self-in-Ok-Faulty c = grind (arith, keeps)

pub returns-in-Ok-Faulty-clause-gives : goal.returns-in-Ok-Faulty-clause-gives
returns-in-Ok-Faulty-clause-gives c = grind (arith, answers)
