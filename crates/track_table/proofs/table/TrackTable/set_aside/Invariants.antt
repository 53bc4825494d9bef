use Rattle.std.proofs.Common.{◌≡◌, take}
use Rattle.track_table.specs.Aside.{all_put}
use Rattle.track_table.specs.Table.{without_keys}
use Rattle.track_table.proofs.table.TrackTable.set_aside.Given as goal

abbrev pub invariant-loop-place : goal.invariant-loop-place
invariant-loop-place l = record {
  limit : l.self.limit ≡ l.initial.self.limit;
  rows : l.self.rows ≡ without_keys (take l.place l.keys) l.initial.self.rows;
  back : all_put l.parted.items l.self.rows ≡ l.initial.self.rows;
}
