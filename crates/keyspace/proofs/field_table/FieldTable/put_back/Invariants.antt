use Rattle.std.proofs.Common.{◌≡◌, ◌≤◌, length, map}
use Rattle.indexmap.specs.IndexMap.{spare}
use Rattle.keyspace.specs.Places.{all_placed, placed_back}
use Rattle.keyspace.proofs.PlainEntries.{plain}
use Rattle.keyspace.proofs.field_table.FieldTable.put_back.Given as goal

abbrev pub invariant-taken : goal.invariant-taken
invariant-taken l = record {
  done : placed_back (all_placed l.left.items) (map plain l.self-inside.table.entries)
      ≡ placed_back (all_placed l.fn.taken) l.fn.self;
  room : length l.left.items ≤ spare l.self-inside.table;
}

abbrev pub decreases-taken : goal.decreases-taken
decreases-taken l = length l.left.items
