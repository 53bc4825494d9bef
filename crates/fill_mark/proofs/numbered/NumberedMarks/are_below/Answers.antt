use Rattle.std.proofs.Common.{arith}
use Rattle.fill_mark.proofs.Numbers.{if_below}
use Rattle.fill_mark.proofs.numbered.NumberedMarks.are_below.Goals as goal

pub returns-in-Some : goal.returns-in-Some
returns-in-Some c = grind (arith, if_below)
