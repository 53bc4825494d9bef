use Rattle.std.proofs.Common.{◌≡◌, ◌++◌, drop}
use Rattle.track_table.specs.Table.{without_keys}
use Rattle.serial_model.specs.Tracking.{group}
use Rattle.past_effects.specs.Seen.{unpassed}
use Rattle.past_effects.specs.Sendings.{told_sent}
use Rattle.past_effects.proofs.sendings.Sendings.tell_holders.Given as goal

abbrev pub invariant-loop-place : goal.invariant-loop-place
invariant-loop-place l = record {
  limit : l.table.limit ≡ l.initial.table.limit;
  rows : without_keys (drop l.place l.keys) l.table.rows
      ≡ without_keys l.keys l.initial.table.rows;
  told : l.self
      ++ told_sent l.connections (unpassed l.passed (group (drop l.place l.keys) l.table.rows))
      ≡ l.initial.self
      ++ told_sent l.connections (unpassed l.passed (group l.keys l.initial.table.rows));
}
