use Rattle.std.proofs.Common.{◌≡◌, ◌+◌, ◌-◌, ℕ, length, slice_index_or}
use Rattle.world_run.proofs.living.Living.reach.Given as goal

abbrev pub invariant-reach : goal.invariant-reach
invariant-reach l =
    (k : ℕ) → slice_index_or l.self-inside.next.items k 0
    ≡ slice_index_or l.initial.self-inside.next.items k 0

abbrev pub decreases-reach : goal.decreases-reach
decreases-reach l = l.at + 1 - length l.self-inside.next.items
