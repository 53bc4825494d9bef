use Rattle.std.proofs.Common.{◌≡◌, ◌<◌, ◌≤◌, ◌-◌, true, false, length}
use Rattle.expiry.specs.declared.index.Deadline.{Deadline}
use Rattle.expiry.specs.Blocks.{begins_after, block_at}
use Rattle.expiry.proofs.blocks.block_for.Given as goal

abbrev pub invariant-halves : goal.invariant-halves
invariant-halves l =
    let d : Deadline = record { at = l.at; key = l.key } in
    (l.low < l.high) × (l.high ≤ length l.blocks)
    × (0 < l.low → begins_after d (block_at l.blocks l.low) ≡ false)
    × (l.high < length l.blocks → begins_after d (block_at l.blocks l.high) ≡ true)

abbrev pub decreases-halves : goal.decreases-halves
decreases-halves l = l.high - l.low
