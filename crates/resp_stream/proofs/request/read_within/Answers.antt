use Rattle.resp_stream.proofs.RequestLimits.{bad_left, bad_gives, whole_fits, whole_long, more_fits}
use Rattle.resp_stream.proofs.RequestLimits.{more_long}
use Rattle.resp_stream.proofs.request.read_within.Goals as goal
use Rattle.std.proofs.Common.{arith}

pub overflow_sub-text : goal.overflow_sub-text
overflow_sub-text c =
    bad_left c.args.text.now c.in-Err-Faulty.e.fault c.in-Err-Faulty.e.left
    (rw c.in-Err-Faulty.field-0-is at c.in-Err-Faulty.ensures)

pub returns-then-taken-gt-WHOLE_LIMIT : goal.returns-then-taken-gt-WHOLE_LIMIT
returns-then-taken-gt-WHOLE_LIMIT c =
    whole_long c.args.text.now c.in-Ok-Whole.words c.in-Ok-Whole.taken
    (rw c.in-Ok-Whole.field-0-is at c.in-Ok-Whole.ensures) c.too_long.result
    c.if-taken-gt-WHOLE_LIMIT.true c.too_long.ensures

pub returns-then-text-gt-WHOLE_LIMIT : goal.returns-then-text-gt-WHOLE_LIMIT
returns-then-text-gt-WHOLE_LIMIT c = grind (arith, more_long)

pub returns-in-Err-Faulty : goal.returns-in-Err-Faulty
returns-in-Err-Faulty c = grind (arith, bad_gives)

pub returns-else-taken-gt-WHOLE_LIMIT : goal.returns-else-taken-gt-WHOLE_LIMIT
returns-else-taken-gt-WHOLE_LIMIT c = grind (arith, whole_fits)

pub returns-else-text-gt-WHOLE_LIMIT : goal.returns-else-text-gt-WHOLE_LIMIT
returns-else-text-gt-WHOLE_LIMIT c = grind (arith, more_fits)
