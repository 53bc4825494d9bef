-- What holds of every table: each key is there once and is held, and holders ascend.
use Rattle.std.specs.Prelude.{◌≡◌, ◌<◌, ◌≤◌, ◌++◌, ℕ, List, [], ◌∷◌, false, length}
use Rattle.std.specs.Prelude.{if◌then◌else◌}
use Rattle.std.specs.Str.{bytes_eq}
use Rattle.id_set.specs.Ids.{Ascend, with_id}
use Rattle.track_table.specs.declared.table.Held.{Held}
use Rattle.track_table.specs.Table.{holders_of, remembered}

abbrev pub HasNo : List ℕ → List Held → Type 0
HasNo key [] = Unit {0}
HasNo key (r ∷ rs) = (bytes_eq key r.key ≡ false) × HasNo key rs

abbrev pub AreOrdered : List Held → Type 0
AreOrdered [] = Unit {0}
AreOrdered (r ∷ rs) = Ascend r.holders × HasNo r.key rs × AreOrdered rs

abbrev pub AreHeld : List Held → Type 0
AreHeld [] = Unit {0}
AreHeld (r ∷ rs) = (0 < length r.holders) × AreHeld rs

pub record IsTable (rows : List Held) : Type 0 where
  pub ordered : AreOrdered rows
  pub held : AreHeld rows

-- The oldest rows stand by themselves, and those past the limit are among them.
pub record IsWhole (limit : ℕ) (oldest young : List Held) : Type 0 where
  pub table : IsTable (oldest ++ young)
  pub most : length young ≤ limit

-- Remembering a key changes its own holders alone: the connection is among them, in its place.
abbrev pub HoldersGrow : Type 0
HoldersGrow =
    (q : List ℕ) (id : ℕ) (key : List ℕ) (rows : List Held)
    → holders_of q (remembered id key rows)
    ≡ (if bytes_eq q key then with_id id (holders_of key rows) else holders_of q rows)
