use Rattle.std.proofs.Common.{◌≡◌, ◌++◌, drop, map}
use Rattle.track_table.specs.Table.{without_connection}
use Rattle.prefix_table.specs.Table as registrations
use Rattle.serial_model.specs.State.{for_each}
use Rattle.past_effects.specs.Sendings.{end_of}
use Rattle.past_effects.proofs.scan.Scan.end_all.Given as goal

abbrev pub invariant-loop-id : goal.invariant-loop-id
invariant-loop-id l = record {
  most : l.self.out_max ≡ l.initial.self.out_max;
  connections : l.self.connections ≡ l.initial.self.connections;
  limit : l.self.table.limit ≡ l.initial.self.table.limit;
  rows : for_each without_connection (drop l.id-index l.id-items) l.self.table.rows
      ≡ for_each without_connection l.id-items l.initial.self.table.rows;
  prefixes : for_each registrations.without_connection (drop l.id-index l.id-items)
      l.self.prefixes
      ≡ for_each registrations.without_connection l.id-items l.initial.self.prefixes;
  sent : l.sent ++ map end_of (drop l.id-index l.id-items)
      ≡ l.initial.sent ++ map end_of l.id-items;
}
