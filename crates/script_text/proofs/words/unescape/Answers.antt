use Rattle.std.proofs.Common.{arith, drop_of_length-le}
use Rattle.std.proofs.lemmas.List.{append-nil}
use Rattle.script_text.proofs.words.unescape.Goals as goal

pub returns : goal.returns
returns c = grind (arith, drop_of_length-le, append-nil)
