use Rattle.std.proofs.Common.{arith}
use Rattle.resp_stream.proofs.Line.{passed_none}
use Rattle.resp_stream.proofs.Begun.{begun_none, begun_inline, array_more, array_bad, array_null}
use Rattle.resp_stream.proofs.Begun.{array_goes, array_some}
use Rattle.resp_stream.proofs.request.begin_request.Goals as goal

pub returns-in_default : goal.returns-in_default
returns-in_default c = grind (arith, begun_none, passed_none)

pub read_inline-requires-clause-inline : goal.read_inline-requires-clause-inline
read_inline-requires-clause-inline c = grind (arith, begun_inline)

pub overflow_sub-result : goal.overflow_sub-result
overflow_sub-result c =
    (array_goes c.args.text.now c.in-Some.rest.now c.in-Some.c c.in-Some.ensures.some
    c.if-c-ne42.false c.in-Ok-Some-None-default.field-0-0-0 c.in-Ok-Some-None-default.rest.now
    (rw c.in-Ok-Some-None-default.field-0-is at c.in-Ok-Some-None-default.ensures.gives)).within

pub overflow_sub-at : goal.overflow_sub-at
overflow_sub-at c =
    (array_goes c.args.text.now c.in-Some.rest.now c.in-Some.c c.in-Some.ensures.some
    c.if-c-ne42.false c.in-Ok-Some-Some-default.field-0-0-0 c.in-Ok-Some-Some-default.rest.now
    (rw c.in-Ok-Some-Some-default.field-0-is at c.in-Ok-Some-Some-default.ensures.gives)).within

pub read_words-requires : goal.read_words-requires
read_words-requires c = grind (arith, array_some)

pub returns-in-Ok-None : goal.returns-in-Ok-None
returns-in-Ok-None c = grind (arith, array_more, passed_none)

pub returns-in-Ok-Some-None-default : goal.returns-in-Ok-Some-None-default
returns-in-Ok-Some-None-default c = grind (arith, array_goes, array_null)

pub returns-in-Err : goal.returns-in-Err
returns-in-Err c = grind (arith, array_bad)
