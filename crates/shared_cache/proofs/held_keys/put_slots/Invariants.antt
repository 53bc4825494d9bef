use Rattle.std.proofs.Common.{◌≡◌, ◌++◌, drop}
use Rattle.shared_cache.specs.HeldKeys.{seen}
use Rattle.shared_cache.proofs.held_keys.put_slots.Given as goal

abbrev pub invariant-loop-slot : goal.invariant-loop-slot
invariant-loop-slot l =
    seen l.slots.items ++ drop l.slot-index l.entries ≡ seen l.initial.slots.items ++ l.entries
