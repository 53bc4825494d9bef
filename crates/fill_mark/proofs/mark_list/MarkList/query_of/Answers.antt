use Rattle.std.proofs.Common.{arith}
use Rattle.std.proofs.lemmas.Option.{slice_get_within, get_or_from_slice_get}
use Rattle.fill_mark.proofs.Found.{none_goes}
use Rattle.fill_mark.proofs.mark_list.MarkList.query_of.Goals as goal

pub returns-in_err-place-clause-none : goal.returns-in_err-place-clause-none
returns-in_err-place-clause-none c = grind (arith, none_goes)

pub index-requires : goal.index-requires
index-requires c = grind (arith, slice_get_within)

pub returns-clause-query : goal.returns-clause-query
returns-clause-query c = grind (arith, get_or_from_slice_get)
