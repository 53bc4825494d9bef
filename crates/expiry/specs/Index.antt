-- Deadlines as a list in order, the earliest first, and at one moment in byte order of the keys.
use Rattle.std.specs.Prelude.{◌==◌, ◌&&◌, ◌||◌, ℕ, List, [], ◌∷◌, Bool, not, nat_lt}
use Rattle.std.specs.Prelude.{if◌then◌else◌, Option, Some, None, false, map}
use Rattle.std.specs.List.{filter, list_any}
use Rattle.std.specs.Ordering.{is_lt, nat_cmp}
use Rattle.std.specs.Cmp.Lexicographic.{slice_cmp}
use Rattle.std.specs.Str.{bytes_eq}
use Rattle.expiry.specs.declared.index.Deadline.{Deadline}

abbrev pub is_same : Deadline → Deadline → Bool
is_same d e = d.at == e.at && bytes_eq d.key e.key

abbrev pub comes_before : Deadline → Deadline → Bool
comes_before d e = nat_lt d.at e.at || (d.at == e.at && is_lt (slice_cmp nat_cmp d.key e.key))

abbrev pub has : Deadline → List Deadline → Bool
has d ds = list_any (is_same d) ds

-- a deadline in its place, where it is not there yet
abbrev pub with : Deadline → List Deadline → List Deadline
with d [] = d ∷ []
with d (e ∷ es) =
    if comes_before e d then e ∷ with d es else
    if is_same d e then e ∷ es else d ∷ e ∷ es

abbrev pub without : Deadline → List Deadline → List Deadline
without d es = filter (λ e. not (is_same d e)) es

-- the deadlines before a moment, and those that are not
abbrev pub is_due : ℕ → Deadline → Bool
is_due moment d = nat_lt d.at moment

abbrev pub due : ℕ → List Deadline → List Deadline
due moment ds = filter (is_due moment) ds

abbrev pub left : ℕ → List Deadline → List Deadline
left moment ds = filter (λ d. not (is_due moment d)) ds

abbrev pub first_of : List Deadline → Option Deadline
first_of [] = None
first_of (d ∷ ds) = Some d

-- a key's deadline, if it has one, is at this moment
abbrev pub is_at : ℕ → Option ℕ → Bool
is_at moment None = false
is_at moment (Some deadline) = moment == deadline

abbrev pub keys_of : List Deadline → List (List ℕ)
keys_of ds = map (λ d. d.key) ds
