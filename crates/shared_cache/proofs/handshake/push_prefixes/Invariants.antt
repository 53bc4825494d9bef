use Rattle.std.proofs.Common.{◌≡◌, ◌++◌, ◌∷◌, [], take, codes}
use Rattle.std.specs.List.{flat_map}
use Rattle.shared_cache.proofs.handshake.push_prefixes.Given as goal

abbrev pub invariant-loop-prefix : goal.invariant-loop-prefix
invariant-loop-prefix l =
    l.words ≡ l.initial.words ++ flat_map (λ p. codes "PREFIX" ∷ p ∷ [])
    (take l.prefix-index l.prefixes)
