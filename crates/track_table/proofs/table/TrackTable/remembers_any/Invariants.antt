use Rattle.std.proofs.Common.{◌≡◌, take}
use Rattle.track_table.specs.Table.{without_keys}
use Rattle.track_table.proofs.table.TrackTable.remembers_any.Given as goal

abbrev pub invariant-loop-place : goal.invariant-loop-place
invariant-loop-place l = without_keys (take l.place l.keys) l.self.rows ≡ l.self.rows
