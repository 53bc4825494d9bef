use Rattle.std.proofs.Common.{arith}
use Rattle.resp_stream.proofs.Begun.{inline_whole, inline_more, inline_bad, line_goes}
use Rattle.resp_stream.proofs.request.read_inline.Goals as goal

pub overflow_sub-result : goal.overflow_sub-result
overflow_sub-result c = grind (arith, line_goes)

pub returns-in-Ok-None : goal.returns-in-Ok-None
returns-in-Ok-None c = grind (arith, inline_more)

pub returns-in-Ok : goal.returns-in-Ok
returns-in-Ok c = grind (arith, line_goes, inline_whole)

pub returns-in-Err : goal.returns-in-Err
returns-in-Err c = grind (arith, inline_bad)
