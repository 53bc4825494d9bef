use Rattle.std.proofs.Common.{◌≡◌, ◌≤◌, ◌+◌, ◌-◌, drop, length}
use Rattle.prefix_table.specs.Fronts.{common}
use Rattle.prefix_table.proofs.table.common.Given as goal

abbrev pub invariant-bytes : goal.invariant-bytes
invariant-bytes l =
    (l.count ≤ length l.a) × (l.count ≤ length l.b)
    × (common (drop l.count l.a) (drop l.count l.b) + l.count ≡ common l.a l.b)

abbrev pub decreases-bytes : goal.decreases-bytes
decreases-bytes l = length l.a - l.count
