use Rattle.std.proofs.Common.{◌≡◌, ◌≤◌, ◌+◌, length}
use Rattle.std.specs.Vec.{vec_len, vec_capacity}
use Rattle.track_table.specs.Aside.{all_put}
use Rattle.track_table.proofs.aside.put_all_back.Given as goal

abbrev pub invariant-rows : goal.invariant-rows
invariant-rows l = record {
  rows : all_put l.left.items l.rows.items ≡ all_put l.fn.parted.items l.initial.rows.items;
  room : vec_len l.rows + vec_len l.left ≤ vec_capacity l.rows;
}

abbrev pub decreases-rows : goal.decreases-rows
decreases-rows l = length l.left.items
