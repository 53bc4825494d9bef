-- Keys in order of first occurrence.
use Rattle.std.specs.Prelude.{ℕ, List, [], ◌∷◌, ◌++◌, Bool, if◌then◌else◌}

-- a key that was not met yet goes last
abbrev pub with_new : Bool → List ℕ → List (List ℕ) → List (List ℕ)
with_new was_met key keys = if was_met then keys else keys ++ key ∷ []
