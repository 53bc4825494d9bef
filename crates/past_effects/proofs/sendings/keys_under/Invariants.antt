use Rattle.std.proofs.Common.{◌≡◌, take}
use Rattle.std.specs.Prelude.{filter, nat_eq}
use Rattle.std.specs.List.{starts_with}
use Rattle.past_effects.proofs.sendings.keys_under.Given as goal

abbrev pub invariant-loop-key : goal.invariant-loop-key
invariant-loop-key l =
    l.some ≡ filter (λ key. starts_with nat_eq key l.prefix) (take l.key-index l.keys)
