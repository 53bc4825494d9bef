-- What holds of the table of remembered keys, and a Run over what is kept.
use Rattle.std.specs.Prelude.{◌≤◌, ℕ, List, length}
use Rattle.track_table.specs.declared.table.Held.{Held}
use Rattle.track_table.specs.Order.{IsTable}
use Rattle.server_book.specs.declared.plan.Plan.{Plan}
use Rattle.server_book.specs.declared.stores.Stores.{Stores}
use Rattle.server_book.specs.RunSendings.{Running}

-- a table of at most so many keys
pub record IsHeld (limit : ℕ) (rows : List Held) : Type 0 where
  pub table : IsTable rows
  pub short : length rows ≤ limit

abbrev pub running : ℕ → ℕ → List (List ℕ) → Plan → Stores → Running
running entry id expired plan s =
    record {
      entry = entry;
      id = id;
      expired = expired;
      plan = plan;
      table = s.table;
      prefixes = s.prefixes;
    }
