use Rattle.std.proofs.Common.{◌≡◌, drop}
use Rattle.shared_cache.specs.Held.{ranked}
use Rattle.shared_cache.specs.HeldKeys.{listed}
use Rattle.shared_cache.proofs.held_keys.HeldKeys.entry_among.Given as goal

abbrev pub invariant-loop-slot : goal.invariant-loop-slot
invariant-loop-slot l =
    ranked l.place (listed l.self.pairs) (drop l.slot-index l.entries)
    ≡ ranked l.place (listed l.self.pairs) l.entries
