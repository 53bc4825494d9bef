-- Where a key is among the rows.
use Rattle.std.specs.Prelude.{◌≡◌, ◌<◌, ℕ, List, true, false, length, slice_index_or}
use Rattle.std.specs.Prelude.{Option, Some, None, []}
use Rattle.std.specs.Str.{bytes_eq}
use Rattle.track_table.specs.declared.table.Held.{Held}

abbrev pub nobody : Held
nobody = record { key = []; holders = [] }

abbrev pub key_at : List Held → ℕ → List ℕ
key_at rows i = (slice_index_or rows i nobody).key

-- no row before this place has the key
abbrev pub NoneBefore : List ℕ → List Held → ℕ → Type 0
NoneBefore key rows n = (i : ℕ) → i < n → bytes_eq key (key_at rows i) ≡ false

-- the place of the first row with the key, or that there is none
abbrev pub IsPlace : List ℕ → List Held → Option ℕ → Type 0
IsPlace key rows None = NoneBefore key rows (length rows)
IsPlace key rows (Some place) =
    (place < length rows) × (bytes_eq key (key_at rows place) ≡ true) × NoneBefore key rows place
