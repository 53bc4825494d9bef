use Rattle.std.proofs.Common.{◌≡◌, take}
use Rattle.prefix_table.proofs.Several.{all_places}
use Rattle.prefix_table.proofs.table.PrefixTable.matching_any.Given as goal

abbrev pub invariant-loop-number : goal.invariant-loop-number
invariant-loop-number l = l.places.items ≡ all_places l.self (take l.number l.keys)
