use Rattle.std.proofs.Common.{◌≡◌, ℕ, true, length}
use Rattle.track_table.specs.Table.{without_connection}
use Rattle.track_table.specs.Aged.{IsIndexed, rows_of}
use Rattle.track_table.specs.Holdings.{HoldsLess, has_age, holds_at}
use Rattle.track_table.proofs.rows.release_ages.Given as goal

abbrev pub invariant-ages : goal.invariant-ages
invariant-ages l = record {
  indexed : IsIndexed l.rows.entries l.marks.entries l.others.entries;
  all : (a : ℕ) → holds_at l.id a l.rows.entries ≡ true → has_age a l.left.keys ≡ true;
  rows : without_connection l.id (rows_of l.rows.entries)
      ≡ without_connection l.id (rows_of l.initial.rows.entries);
  less : HoldsLess l.initial.rows.entries l.rows.entries;
}

abbrev pub decreases-ages : goal.decreases-ages
decreases-ages l = length l.left.keys
