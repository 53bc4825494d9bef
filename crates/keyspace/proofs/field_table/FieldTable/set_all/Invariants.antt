use Rattle.std.proofs.Common.{◌≡◌, ◌≤◌, map, length}
use Rattle.indexmap.specs.IndexMap.{spare}
use Rattle.resp_value.specs.Tree.{in_turn}
use Rattle.command_words.specs.Hashes.{set_all}
use Rattle.keyspace.proofs.PlainEntries.{plain}
use Rattle.keyspace.proofs.field_table.FieldTable.set_all.Given as goal

abbrev pub invariant-pairs : goal.invariant-pairs
invariant-pairs l = record {
  done : set_all (map plain l.field-iterator.rest.items) (map plain l.self-inside.table.entries)
      ≡ set_all (in_turn l.fn.words) l.fn.self;
  room : length l.field-iterator.rest.items ≤ spare l.self-inside.table;
  counted : l.field-iterator.rest.len ≡ length l.field-iterator.rest.items;
  grown : l.before ≤ length l.self-inside.table.entries;
  began : l.before ≡ length l.fn.self;
}
