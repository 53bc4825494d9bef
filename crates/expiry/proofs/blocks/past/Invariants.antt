use Rattle.std.proofs.Common.{◌≡◌, ◌<◌, ℕ, true}
use Rattle.expiry.specs.Blocks.{block_at, is_past}
use Rattle.expiry.proofs.blocks.past.Given as goal

abbrev pub invariant-loop-place : goal.invariant-loop-place
invariant-loop-place l = (i : ℕ) → i < l.place → is_past l.moment (block_at l.blocks i) ≡ true
