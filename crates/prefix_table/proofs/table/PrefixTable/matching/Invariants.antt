use Rattle.std.proofs.Common.{◌≡◌, ◌++◌, ◌+◌, ◌-◌, length}
use Rattle.prefix_table.specs.Fronts.{shorter}
use Rattle.prefix_table.proofs.table.PrefixTable.matching.Given as goal

abbrev pub invariant-fronts : goal.invariant-fronts
invariant-fronts l = l.places.items ≡ l.fn.places.items ++ shorter l.key l.self l.front

abbrev pub decreases-fronts : goal.decreases-fronts
decreases-fronts l = length l.key + 1 - l.front
