use Rattle.std.proofs.Common.{◌≡◌, take}
use Rattle.track_table.specs.Table.{all_released, with_keys}
use Rattle.track_table.proofs.table.TrackTable.remember_all.Given as goal

abbrev pub invariant-loop-place : goal.invariant-loop-place
invariant-loop-place l = record {
  limit : l.self.limit ≡ l.initial.self.limit;
  rows : l.self.rows ≡ with_keys l.id (take l.place l.keys) l.initial.self.rows;
  back : all_released l.id l.new l.self.rows ≡ l.initial.self.rows;
}
