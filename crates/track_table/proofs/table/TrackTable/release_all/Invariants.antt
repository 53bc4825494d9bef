use Rattle.std.proofs.Common.{◌≡◌, ◌≤◌, length, take}
use Rattle.track_table.specs.Table.{all_released}
use Rattle.track_table.proofs.table.TrackTable.release_all.Given as goal

abbrev pub invariant-keys : goal.invariant-keys
invariant-keys l = record {
  limit : l.self.limit ≡ l.initial.self.limit;
  within : l.left ≤ length l.keys;
  rows : all_released l.id (take l.left l.keys) l.self.rows
      ≡ all_released l.id l.keys l.initial.self.rows;
}

abbrev pub decreases-keys : goal.decreases-keys
decreases-keys l = l.left
