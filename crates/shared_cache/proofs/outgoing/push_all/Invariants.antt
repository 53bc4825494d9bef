use Rattle.std.proofs.Common.{◌≡◌, ◌++◌, take}
use Rattle.shared_cache.proofs.outgoing.push_all.Given as goal

abbrev pub invariant-loop-key : goal.invariant-loop-key
invariant-loop-key l = l.out ≡ l.initial.out ++ take l.key-index l.keys
