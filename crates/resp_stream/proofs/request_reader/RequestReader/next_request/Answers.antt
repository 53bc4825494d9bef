use Rattle.resp_stream.proofs.RequestFaults.{fresh, again, answers, keeps}
use Rattle.resp_stream.proofs.request_reader.RequestReader.next_request.Goals as goal
use Rattle.std.proofs.Common.{arith}

pub returns-in-Some-clause-gives : goal.returns-in-Some-clause-gives
returns-in-Some-clause-gives c = grind (arith, again)

pub invariant_of-self : goal.invariant_of-self
invariant_of-self c = grind (arith, fresh)

pub invariant_of-self-in-Ok-Whole : goal.invariant_of-self-in-Ok-Whole
invariant_of-self-in-Ok-Whole c = grind (arith, fresh)

pub invariant_of-self-in-Ok-Faulty : goal.invariant_of-self-in-Ok-Faulty
invariant_of-self-in-Ok-Faulty c =
    keeps c.bytes-2.result.now c.self.inside.input c.pass-in-Ok-Faulty.new.self
    c.in-Ok-Faulty.passed c.in-Ok-Faulty.at c.in-Ok-Faulty.fault c.fail.result c.bytes-2.ensures
    (rw c.in-Ok-Faulty.field-0-is at c.in-Ok-Faulty.ensures) c.pass-in-Ok-Faulty.ensures.before
    c.pass-in-Ok-Faulty.ensures.rest c.fail.ensures.fault c.fail.new.self c.fail.ensures.broken
    c.replace-progress.new.dest c.replace-progress.ensures.after

pub returns-in-Ok-Faulty-clause-gives : goal.returns-in-Ok-Faulty-clause-gives
returns-in-Ok-Faulty-clause-gives c = grind (arith, answers)

pub invariant_of-self-in-Err : goal.invariant_of-self-in-Err
invariant_of-self-in-Err c = grind (arith, fresh)
