use Rattle.std.proofs.Common.{◌≡◌, drop}
use Rattle.shared_cache.specs.HeldKeys.{with_pairs, forget}
use Rattle.shared_cache.proofs.held_keys.HeldKeys.invalidate.Given as goal

abbrev pub invariant-loop-key : goal.invariant-loop-key
invariant-loop-key l =
    with_pairs (forget (drop l.key-index l.key-items) l.self.pairs) l.self
    ≡ with_pairs (forget l.key-items l.initial.self.pairs) l.initial.self
