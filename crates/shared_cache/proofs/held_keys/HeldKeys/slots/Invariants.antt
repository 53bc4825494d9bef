use Rattle.std.proofs.Common.{◌≡◌, ◌++◌, map}
use Rattle.shared_cache.specs.HeldKeys.{listed, seen}
use Rattle.shared_cache.proofs.PlainKeys.{plain}
use Rattle.shared_cache.proofs.held_keys.HeldKeys.slots.Given as goal

abbrev pub invariant-loop-entries : goal.invariant-loop-entries
invariant-loop-entries l =
    seen l.slots.items ++ listed (map plain l.entries-iterator) ≡ listed l.self.pairs
