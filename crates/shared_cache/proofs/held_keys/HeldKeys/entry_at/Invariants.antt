use Rattle.std.proofs.Common.{◌≡◌, map}
use Rattle.shared_cache.specs.Held.{ranked}
use Rattle.shared_cache.specs.HeldKeys.{listed}
use Rattle.shared_cache.proofs.PlainKeys.{plain}
use Rattle.shared_cache.proofs.held_keys.HeldKeys.entry_at.Given as goal

abbrev pub invariant-loop-entries : goal.invariant-loop-entries
invariant-loop-entries l =
    ranked l.place (listed l.self.pairs) (listed (map plain l.entries-iterator))
    ≡ ranked l.place (listed l.self.pairs) (listed l.self.pairs)
