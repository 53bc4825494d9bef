-- Ids in ascending order, each once.
use Rattle.std.specs.Prelude.{◌≡◌, ◌==◌, ◌+◌, ◌<◌, ◌≤◌, ℕ, List, [], ◌∷◌, true, false, not}
use Rattle.std.specs.Prelude.{if◌then◌else◌, nat_lt, length, filter, slice_index_or}

-- ids from this one on, each above the one before it
abbrev pub AscendFrom : ℕ → List ℕ → Type 0
AscendFrom n [] = Unit {0}
AscendFrom n (id ∷ ids) = (n ≤ id) × AscendFrom (id + 1) ids

abbrev pub Ascend : List ℕ → Type 0
Ascend ids = AscendFrom 0 ids

-- an id at its place, once
abbrev pub with_id : ℕ → List ℕ → List ℕ
with_id id [] = id ∷ []
with_id id (x ∷ xs) =
    if nat_lt x id then x ∷ with_id id xs else
    if x == id then x ∷ xs else id ∷ x ∷ xs

abbrev pub without_id : ℕ → List ℕ → List ℕ
without_id id ids = filter (λ x. not (x == id)) ids

abbrev pub AllBelow : ℕ → List ℕ → ℕ → Type 0
AllBelow id ids n = (i : ℕ) → i < n → nat_lt (slice_index_or ids i 0) id ≡ true

-- the ids before this place are below this one, and the one there is not
abbrev pub IsPlaceFor : ℕ → List ℕ → ℕ → Type 0
IsPlaceFor id ids n =
    (n ≤ length ids) × AllBelow id ids n
    × (n < length ids → nat_lt (slice_index_or ids n 0) id ≡ false)
