use Rattle.std.proofs.Common.{◌≡◌, ◌<◌, ◌≤◌, ◌-◌, false, length}
use Rattle.expiry.specs.declared.index.Deadline.{Deadline}
use Rattle.expiry.specs.Index.{comes_before}
use Rattle.expiry.specs.Places.{AllBefore, deadline_at}
use Rattle.expiry.proofs.block.Block.place_for.Given as goal

abbrev pub invariant-halves : goal.invariant-halves
invariant-halves l =
    let d : Deadline = record { at = l.at; key = l.key } in
    (l.low ≤ l.high) × (l.high ≤ length l.self) × AllBefore d l.self l.low
    × (l.high < length l.self → comes_before (deadline_at l.self l.high) d ≡ false)

abbrev pub decreases-halves : goal.decreases-halves
decreases-halves l = l.high - l.low
