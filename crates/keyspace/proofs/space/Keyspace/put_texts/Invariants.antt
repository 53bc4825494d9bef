use Rattle.std.proofs.Common.{◌≡◌, ◌≤◌, map, length}
use Rattle.std.specs.FinMap.{from_entries}
use Rattle.indexmap.specs.IndexMap.{spare}
use Rattle.resp_value.specs.Tree.{in_turn}
use Rattle.command_words.specs.Strings.{put_all}
use Rattle.keyspace.specs.Plain.{held_of}
use Rattle.keyspace.proofs.Keyed.{seen}
use Rattle.keyspace.proofs.PlainEntries.{plain}
use Rattle.keyspace.proofs.space.Keyspace.put_texts.Given as goal

abbrev pub invariant-pairs : goal.invariant-pairs
invariant-pairs l = record {
  done : put_all (map plain l.key-iterator.rest.items)
      (from_entries (map (seen held_of) l.self-inside.table.entries))
      ≡ put_all (in_turn l.fn.words) l.fn.self;
  room : length l.key-iterator.rest.items ≤ spare l.self-inside.table;
  counted : l.key-iterator.rest.len ≡ length l.key-iterator.rest.items;
}
