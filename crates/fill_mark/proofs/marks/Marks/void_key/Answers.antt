use Rattle.std.proofs.lemmas.List.Elements.{filter-append}
use Rattle.fill_mark.proofs.marks.Marks.void_key.Goals as goal
use Rattle.std.proofs.Common.{arith}

pub returns : goal.returns
returns c = grind (arith, filter-append)
