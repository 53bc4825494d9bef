use Rattle.std.proofs.Common.{arith, eq-eqb}
use Rattle.std.proofs.lemmas.Option.{slice_get_read}
use Rattle.fill_mark.proofs.Found.{found}
use Rattle.fill_mark.proofs.mark_list.place_of.Goals as goal

pub returns-then-mark-number : goal.returns-then-mark-number
returns-then-mark-number c = grind (arith, slice_get_read, eq-eqb, found)
