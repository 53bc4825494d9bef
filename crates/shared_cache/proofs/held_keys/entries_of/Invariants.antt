use Rattle.std.proofs.Common.{◌≡◌, ◌++◌, drop}
use Rattle.shared_cache.specs.HeldKeys.{seen}
use Rattle.shared_cache.proofs.held_keys.entries_of.Given as goal

abbrev pub invariant-loop-slot : goal.invariant-loop-slot
invariant-loop-slot l =
    seen l.entries.items ++ seen (drop l.slot-index l.slots) ≡ seen l.slots
