use Rattle.std.proofs.Common.{◌≡◌, ◌≤◌, ◌-◌, [], map, length, drop}
use Rattle.indexmap.specs.IndexMap.{spare}
use Rattle.command_words.specs.Hashes.{set_all}
use Rattle.keyspace.proofs.PlainEntries.{plain}
use Rattle.keyspace.proofs.field_table.FieldTable.copy.Given as goal

abbrev pub invariant-fields : goal.invariant-fields
invariant-fields l = record {
  done : set_all (drop l.place l.fn.self) (map plain l.table.entries) ≡ set_all l.fn.self [];
  room : length l.fn.self - l.place ≤ spare l.table;
}
