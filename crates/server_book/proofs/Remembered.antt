-- A table of remembered keys by its parts.
use Rattle.std.proofs.Common.{◌≡◌, ◌≤◌, ℕ, List, [], length, arith}
use Rattle.track_table.specs.declared.table.Held.{Held}
use Rattle.track_table.specs.Table.{TableState, dropped, without_keys}

pub same_table : (t : TableState) (limit : ℕ) (rows : List Held) → t.limit ≡ limit → t.rows ≡ rows
    → t ≡ record { limit = limit; rows = rows }
same_table t limit rows e f = grind arith

-- a table without keys
pub table_left : (t u : TableState) (keys : List (List ℕ)) → u.limit ≡ t.limit
    → u.rows ≡ without_keys keys t.rows → u ≡ record t { rows = without_keys keys t.rows }
table_left t u keys limit rows = same_table u t.limit _ limit rows

-- within the limit nothing is dropped
pub short_dropped : (limit : ℕ) (rows : List Held) → length rows ≤ limit → dropped limit rows ≡ []
short_dropped limit rows short = grind arith
