use Rattle.std.proofs.Common.{◌≡◌, ◌≤◌, ◌+◌, ◌++◌, length}
use Rattle.std.specs.Vec.{vec_len, vec_capacity}
use Rattle.track_table.proofs.rows.AgedRows.move_onto.Given as goal

abbrev pub invariant-rows : goal.invariant-rows
invariant-rows l = record {
  rows : l.out.items ++ l.self ≡ l.initial.out.items ++ l.initial.self;
  room : vec_len l.out + length l.self ≤ vec_capacity l.out;
  kept : vec_capacity l.initial.out ≤ vec_capacity l.out;
}

abbrev pub decreases-rows : goal.decreases-rows
decreases-rows l = length l.self
