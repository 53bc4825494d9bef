use Rattle.std.proofs.Common.{◌≡◌, ◌≤◌, ◌+◌, length, vec_capacity, vec_len}
use Rattle.command_words.specs.Hashes.{remove_all}
use Rattle.keyspace.specs.Places.{all_placed, placed_back}
use Rattle.keyspace.proofs.field_table.FieldTable.take_all.Given as goal

abbrev pub invariant-names : goal.invariant-names
invariant-names l = record {
  gone : remove_all l.left l.self ≡ remove_all l.fn.names l.fn.self;
  went : length l.taken.items + length l.self ≡ length l.fn.self;
  back : placed_back (all_placed l.taken.items) l.self ≡ l.fn.self;
  room : vec_len l.taken + length l.left ≤ vec_capacity l.taken;
}

abbrev pub decreases-names : goal.decreases-names
decreases-names l = length l.left
