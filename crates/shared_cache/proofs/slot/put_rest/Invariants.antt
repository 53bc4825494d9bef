use Rattle.std.proofs.Common.{◌≡◌, ◌++◌, ◌∷◌, take}
use Rattle.std.specs.List.{flat_map}
use Rattle.command_words.specs.Printed.{printed}
use Rattle.shared_cache.proofs.slot.put_rest.Given as goal

abbrev pub invariant-loop-word : goal.invariant-loop-word
invariant-loop-word l =
    l.line.items ≡ l.initial.line.items ++ flat_map (λ w. 32 ∷ printed w)
    (take l.word-index l.words)
