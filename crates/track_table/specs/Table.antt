-- The remembered keys in order of age, the oldest first, each with the connections that hold it.
use Rattle.std.specs.Prelude.{◌==◌, ◌-◌, ℕ, List, [], ◌∷◌, Bool, not}
use Rattle.std.specs.Prelude.{if◌then◌else◌, length, map, filter, take, drop}
use Rattle.std.specs.Str.{bytes_eq}
use Rattle.id_set.specs.Ids.{with_id, without_id}
use Rattle.track_table.specs.declared.table.Held.{Held}

-- the most keys that the table remembers, and those that it does
pub record TableState : Type 0 where
  pub limit : ℕ
  pub rows : List Held

abbrev pub is_held : Held → Bool
is_held r = not (length r.holders == 0)

-- the holders of a key; a key that is not remembered has none
abbrev pub holders_of : List ℕ → List Held → List ℕ
holders_of key [] = []
holders_of key (r ∷ rs) = if bytes_eq key r.key then r.holders else holders_of key rs

-- a key that is new is the youngest; another keeps its age
abbrev pub remembered : ℕ → List ℕ → List Held → List Held
remembered id key [] = record { key = key; holders = id ∷ [] } ∷ []
remembered id key (r ∷ rs) =
    if bytes_eq key r.key then record r { holders = with_id id r.holders } ∷ rs
    else r ∷ remembered id key rs

-- a connection holds these keys too: of those that are new the first is the oldest
abbrev pub with_keys : ℕ → List (List ℕ) → List Held → List Held
with_keys id [] rows = rows
with_keys id (key ∷ keys) rows = with_keys id keys (remembered id key rows)

abbrev pub without_key : List ℕ → List Held → List Held
without_key key rs = filter (λ r. not (bytes_eq key r.key)) rs

-- none of these keys is remembered any more
abbrev pub without_keys : List (List ℕ) → List Held → List Held
without_keys [] rows = rows
without_keys (key ∷ keys) rows = without_keys keys (without_key key rows)

abbrev pub freed_of : ℕ → Held → Held
freed_of id r = record r { holders = without_id id r.holders }

-- a key that no connection holds any more is gone
abbrev pub without_connection : ℕ → List Held → List Held
without_connection id rs = filter is_held (map (freed_of id) rs)

-- a connection holds a key no more
abbrev pub released : ℕ → List ℕ → List Held → List Held
released id key [] = []
released id key (r ∷ rs) =
    if bytes_eq key r.key then (if is_held (freed_of id r) then freed_of id r ∷ rs else rs)
    else r ∷ released id key rs

-- it holds none of these, of which the last goes first
abbrev pub all_released : ℕ → List (List ℕ) → List Held → List Held
all_released id [] rows = rows
all_released id (key ∷ keys) rows = released id key (all_released id keys rows)

-- of more keys than the limit the oldest are dropped
abbrev pub dropped : ℕ → List Held → List Held
dropped limit rows = take (length rows - limit) rows

abbrev pub kept : ℕ → List Held → List Held
kept limit rows = drop (length rows - limit) rows
