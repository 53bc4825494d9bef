-- Rows that were taken out of a table, and the table once they are in their places again.
use Rattle.std.specs.Prelude.{◌<◌, ◌≤◌, ◌+◌, ℕ, List, [], ◌∷◌, Bool, false, length}
use Rattle.std.specs.Prelude.{Option, Some, None, if◌then◌else◌}
use Rattle.std.specs.Str.{bytes_eq}
use Rattle.track_table.specs.declared.table.Held.{Held}
use Rattle.track_table.specs.declared.aside.Parted.{Parted}

-- ---- a row that goes

abbrev pub first_key : List Held → Option (List ℕ)
first_key [] = None
first_key (r ∷ rs) = Some r.key

-- the row with the key, and the key of the row behind it
abbrev pub parted_of : List ℕ → List Held → Option Parted
parted_of key [] = None
parted_of key (r ∷ rs) =
    if bytes_eq key r.key then Some (record { row = r; next = first_key rs }) else parted_of key rs

-- ---- a row that comes back

abbrev pub is_next : Option (List ℕ) → List ℕ → Bool
is_next None key = false
is_next (Some next) key = bytes_eq next key

-- before the row that stood behind it, or last
abbrev pub put_in : Parted → List Held → List Held
put_in p [] = p.row ∷ []
put_in p (r ∷ rs) = if is_next p.next r.key then p.row ∷ r ∷ rs else r ∷ put_in p rs

-- the first that went is the last that comes back
abbrev pub all_put : List Parted → List Held → List Held
all_put [] rows = rows
all_put (p ∷ ps) rows = put_in p (all_put ps rows)

-- the rows that went, the first that went first, and how many rows there is room for
pub record AsideState : Type 0 where
  pub parted : List Parted
  pub room : ℕ

-- where any row went there is room for these rows and for those that went
abbrev pub HasRoom : AsideState → List Held → Type 0
HasRoom aside rows =
    0 < length aside.parted → length rows + length aside.parted ≤ aside.room
