use Rattle.std.proofs.Common.{◌≡◌, take}
use Rattle.track_modes.proofs.prefixes.Prefixes.copy.Given as goal

abbrev pub invariant-loop-prefix : goal.invariant-loop-prefix
invariant-loop-prefix l = l.items.items ≡ take l.prefix-index l.prefix-items
