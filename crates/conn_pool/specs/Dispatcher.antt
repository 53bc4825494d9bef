-- What the dispatcher of the workers has counted, and why it is over.
use Rattle.std.specs.Prelude.{◌+◌, ℕ, List, length, Option}
use Rattle.std.specs.Option.{option_map}

-- how many links are still to come, where that is told
abbrev pub still : {L : Type 0} → Option (List L) → Option ℕ
still left = option_map (λ links. length links) left

-- so many links were given of those that were to come
abbrev pub after_giving : ℕ → Option ℕ → Option ℕ
after_giving given left = option_map (λ n. given + n) left
