use Rattle.std.proofs.Common.{◌≡◌, ◌+◌, ◌≤◌, length}
use Rattle.shared_cache.specs.Held.{rank}
use Rattle.shared_cache.proofs.held_keys.rank.Given as goal

abbrev pub invariant-loop-rest : goal.invariant-loop-rest
invariant-loop-rest l =
    record {
      count_is : l.count + rank l.slot l.rest ≡ rank l.slot l.entries;
      within : l.count + length l.rest ≤ length l.entries;
    }

abbrev pub decreases-loop-rest : goal.decreases-loop-rest
decreases-loop-rest l = length l.rest
