use Rattle.std.proofs.Common.{◌≡◌, ◌<◌, ◌≤◌, ◌-◌, false, length}
use Rattle.std.specs.Ordering.{is_lt}
use Rattle.prefix_table.specs.Table.{byte_order, prefix_at}
use Rattle.prefix_table.specs.Places.{AllBefore}
use Rattle.prefix_table.proofs.table.PrefixTable.first_from.Given as goal

abbrev pub invariant-halves : goal.invariant-halves
invariant-halves l =
    (l.low ≤ l.high) × (l.high ≤ length l.self) × AllBefore l.prefix l.self l.low
    × (l.high < length l.self → is_lt (byte_order (prefix_at l.self l.high) l.prefix) ≡ false)

abbrev pub decreases-halves : goal.decreases-halves
decreases-halves l = l.high - l.low
