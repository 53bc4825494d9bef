use Rattle.std.proofs.Common.{sym, ◌∙◌, arith}
use Rattle.resp_stream.proofs.ValueLaws.{no_value}
use Rattle.resp_stream.proofs.Opening.{leaf_here, opens_here}
use Rattle.resp_stream.proofs.stack.step_of.Goals as goal

pub returns-in_default-clause-gives : goal.returns-in_default-clause-gives
returns-in_default-clause-gives c = grind (arith, no_value)

pub open_of-requires-clause-mark : goal.open_of-requires-clause-mark
open_of-requires-clause-mark c =
    sym c.type_byte_of-mark.ensures
    ∙ (opens_here c.args.room c.in-Some-opening.kind c.type_byte_of-mark.result
    (sym c.opening.ensures ∙ c.in-Some-opening.is)).0

pub returns-in-Ok-None-clause-gives : goal.returns-in-Ok-None-clause-gives
returns-in-Ok-None-clause-gives c = grind (arith, leaf_here)

pub returns-in-Ok-Some-clause-gives : goal.returns-in-Ok-Some-clause-gives
returns-in-Ok-Some-clause-gives c = grind (arith, leaf_here)

pub returns-in-Err-clause-gives : goal.returns-in-Err-clause-gives
returns-in-Err-clause-gives c = grind (arith, leaf_here)
