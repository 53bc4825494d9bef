use Rattle.std.proofs.Common.{◌≡◌, ◌<◌, ℕ, true}
use Rattle.expiry.specs.Blocks.{begins_due, block_at}
use Rattle.expiry.proofs.blocks.begun.Given as goal

abbrev pub invariant-loop-place : goal.invariant-loop-place
invariant-loop-place l =
    (i : ℕ) → i < l.place → begins_due l.moment (block_at l.blocks i) ≡ true
