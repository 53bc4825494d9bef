-- The copies of the names of links that a server keeps for the lines of drops.
use Rattle.std.specs.Prelude.{◌≡◌, ◌<◌, ◌≤◌, ℕ, List, [], ◌∷◌, true, length}
use Rattle.serial_model.specs.declared.history.Limits.{Limits}
use Rattle.serial_model.specs.declared.history.Entry.{Entry}
use Rattle.serial_model.specs.History.{admitted, runs_on}
use Rattle.server_links.specs.EntryLines.{name_of}

-- ids above this one, each above the one before, and none above n
abbrev pub Rise : ℕ → List ℕ → ℕ → Type 0
Rise above [] n = Unit {0}
Rise above (id ∷ ids) n = (above < id) × (id ≤ n) × Rise id ids n

-- the connection of the id n has the n-th name, and as long as it runs on the n-th copy is its name
pub record AreKept (l : Limits) (past : List Entry) (names copies : List (List ℕ)) : Type 0 where
  pub named : length names ≡ admitted past
  pub copied : length copies ≡ admitted past
  pub same : (c : ℕ) → runs_on l past c ≡ true → name_of copies c ≡ name_of names c
