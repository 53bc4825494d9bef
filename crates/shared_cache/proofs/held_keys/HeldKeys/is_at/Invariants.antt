use Rattle.std.proofs.Common.{◌≡◌, ◌+◌, ◌≤◌, map}
use Rattle.shared_cache.specs.Held.{rank}
use Rattle.shared_cache.specs.HeldKeys.{listed}
use Rattle.shared_cache.proofs.PlainKeys.{plain}
use Rattle.shared_cache.proofs.held_keys.HeldKeys.is_at.Given as goal

abbrev pub invariant-loop-entries : goal.invariant-loop-entries
invariant-loop-entries l = record {
  count_is : l.count + rank l.slot (listed (map plain l.entries-iterator))
      ≡ rank l.slot (listed l.self.pairs);
  within : l.count ≤ l.place;
}
