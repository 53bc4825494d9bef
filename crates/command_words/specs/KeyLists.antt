-- Lists of keys.
use Rattle.std.specs.Prelude.{ℕ, List, [], ◌∷◌, ◌++◌, not, if◌then◌else◌}
use Rattle.std.specs.List.{filter, list_any}
use Rattle.std.specs.Str.{bytes_eq}

-- the keys in order of first occurrence
abbrev pub each_once : List (List ℕ) → List (List ℕ)
each_once [] = []
each_once (key ∷ keys) = key ∷ filter (λ k. not (bytes_eq k key)) (each_once keys)

-- a key goes last, where it is none of those
abbrev pub with_key : List ℕ → List (List ℕ) → List (List ℕ)
with_key key met = if list_any (bytes_eq key) met then met else met ++ key ∷ []
