use Rattle.std.proofs.Common.{arith, length-drop}
use Rattle.command_words.proofs.Numbers.{too_large}
use Rattle.command_words.proofs.integer.value_within.Goals as goal

pub returns-then-number-gt922337203685477580 : goal.returns-then-number-gt922337203685477580
returns-then-number-gt922337203685477580 c = grind (arith, too_large, length-drop)
