use Rattle.resp_value.specs.ValueTree.{tree_of}
use Rattle.resp_stream.proofs.ValueLimits.{bad_left, bad_gives, whole_fits, whole_long, more_fits}
use Rattle.resp_stream.proofs.ValueLimits.{more_long}
use Rattle.resp_stream.proofs.stack.read_value.Goals as goal
use Rattle.std.proofs.Common.{arith}

pub overflow_sub-text : goal.overflow_sub-text
overflow_sub-text c =
    bad_left c.args.text.now c.in-Err-Faulty.e.fault c.in-Err-Faulty.e.left
    (rw c.in-Err-Faulty.field-0-is at c.in-Err-Faulty.ensures.gives)

pub returns-then-taken-gt-WHOLE_LIMIT-clause-gives :
    goal.returns-then-taken-gt-WHOLE_LIMIT-clause-gives
returns-then-taken-gt-WHOLE_LIMIT-clause-gives c =
    whole_long c.args.text.now (tree_of c.in-Ok-Some.value) c.run.new.at
    (rw c.in-Ok-Some.field-0-is at c.in-Ok-Some.ensures.gives) c.too_long.result
    c.if-taken-gt-WHOLE_LIMIT.true c.too_long.ensures

pub returns-then-text-gt-WHOLE_LIMIT-clause-gives :
    goal.returns-then-text-gt-WHOLE_LIMIT-clause-gives
returns-then-text-gt-WHOLE_LIMIT-clause-gives c =
    more_long c.args.text.now c.too_long-then-text-gt-WHOLE_LIMIT.result
    (rw c.in-Ok-None.field-0-is at c.in-Ok-None.ensures.gives) c.if-text-gt-WHOLE_LIMIT.true
    c.too_long-then-text-gt-WHOLE_LIMIT.ensures

pub returns-in-Err-Faulty-clause-gives : goal.returns-in-Err-Faulty-clause-gives
returns-in-Err-Faulty-clause-gives c = grind (arith, bad_gives)

pub returns-else-taken-gt-WHOLE_LIMIT-clause-gives :
    goal.returns-else-taken-gt-WHOLE_LIMIT-clause-gives
returns-else-taken-gt-WHOLE_LIMIT-clause-gives c =
    whole_fits c.args.text.now (tree_of c.in-Ok-Some.value) c.run.new.at
    (rw c.in-Ok-Some.field-0-is at c.in-Ok-Some.ensures.gives) c.if-taken-gt-WHOLE_LIMIT.false

pub returns-else-text-gt-WHOLE_LIMIT-clause-gives :
    goal.returns-else-text-gt-WHOLE_LIMIT-clause-gives
returns-else-text-gt-WHOLE_LIMIT-clause-gives c =
    more_fits c.args.text.now (rw c.in-Ok-None.field-0-is at c.in-Ok-None.ensures.gives)
    c.if-text-gt-WHOLE_LIMIT.false
