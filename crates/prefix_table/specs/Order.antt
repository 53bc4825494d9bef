-- What holds of every table: prefixes are in byte order, each once, and each has a connection.
use Rattle.std.specs.Prelude.{◌≡◌, ◌<◌, ℕ, List, [], ◌∷◌, length}
use Rattle.std.specs.declared.cmp.Ordering.TheVariants.{Less}
use Rattle.prefix_table.specs.declared.table.Registration.{Registration}
use Rattle.prefix_table.specs.Table.{byte_order}

abbrev pub ComesBefore : List ℕ → List Registration → Type 0
ComesBefore prefix [] = Unit {0}
ComesBefore prefix (r ∷ rs) = (byte_order prefix r.prefix ≡ Less) × ComesBefore prefix rs

abbrev pub AreInOrder : List Registration → Type 0
AreInOrder [] = Unit {0}
AreInOrder (r ∷ rs) = ComesBefore r.prefix rs × AreInOrder rs

abbrev pub AreHeld : List Registration → Type 0
AreHeld [] = Unit {0}
AreHeld (r ∷ rs) = (0 < length r.ids) × AreHeld rs

pub record IsTable (rows : List Registration) : Type 0 where
  pub order : AreInOrder rows
  pub held : AreHeld rows
