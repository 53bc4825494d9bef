-- The prefixes that a connection tracks by: in byte order, each once.
use Rattle.std.specs.Prelude.{◌≡◌, ◌<◌, ◌≤◌, ℕ, List, [], ◌∷◌, ◌++◌, Bool, true, false, ◌||◌}
use Rattle.std.specs.Prelude.{if◌then◌else◌, length, nat_eq, slice_index_or, Option, None}
use Rattle.std.specs.Cmp.Lexicographic.{slice_cmp}
use Rattle.std.specs.List.{find, starts_with}
use Rattle.std.specs.Option.{option_or}
use Rattle.std.specs.Ordering.{is_lt, nat_cmp}

-- in byte order
abbrev pub is_before : List ℕ → List ℕ → Bool
is_before a b = is_lt (slice_cmp nat_cmp a b)

-- one of the two starts with the other; equal ones do
abbrev pub do_overlap : List ℕ → List ℕ → Bool
do_overlap a b = starts_with nat_eq a b || starts_with nat_eq b a

-- Prefixes are looked at in turn. The first of those in force, and then of those before it, that
-- one of them overlaps.
abbrev pub overlapped : List (List ℕ) → List (List ℕ) → Option (List ℕ)
overlapped held [] = None
overlapped held (p ∷ ps) = option_or (find (do_overlap p) held) (overlapped (held ++ p ∷ []) ps)

-- a prefix at its place in byte order
abbrev pub with_prefix : List ℕ → List (List ℕ) → List (List ℕ)
with_prefix p [] = p ∷ []
with_prefix p (q ∷ qs) =
    if is_before q p then q ∷ with_prefix p qs else
    if is_before p q then p ∷ q ∷ qs else q ∷ qs

abbrev pub with_prefixes : List (List ℕ) → List (List ℕ) → List (List ℕ)
with_prefixes [] held = held
with_prefixes (p ∷ ps) held = with_prefixes ps (with_prefix p held)

-- BCAST registers its prefixes; without any, the empty one
abbrev pub registered : List (List ℕ) → List (List ℕ) → List (List ℕ)
registered [] held = with_prefix [] held
registered (p ∷ ps) held = with_prefixes (p ∷ ps) held

abbrev pub ComesFirst : List ℕ → List (List ℕ) → Type 0
ComesFirst p [] = Unit {0}
ComesFirst p (q ∷ qs) = is_before p q ≡ true

abbrev pub AreInOrder : List (List ℕ) → Type 0
AreInOrder [] = Unit {0}
AreInOrder (p ∷ ps) = ComesFirst p ps × AreInOrder ps

abbrev pub AllBefore : List ℕ → List (List ℕ) → ℕ → Type 0
AllBefore p ps n = (i : ℕ) → i < n → is_before (slice_index_or ps i []) p ≡ true

-- the prefixes before this place come before this one, and the one there does not
abbrev pub IsPlaceFor : List ℕ → List (List ℕ) → ℕ → Type 0
IsPlaceFor p ps n =
    (n ≤ length ps) × AllBefore p ps n
    × (n < length ps → is_before (slice_index_or ps n []) p ≡ false)
