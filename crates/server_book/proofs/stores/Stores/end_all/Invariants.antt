use Rattle.std.proofs.Common.{◌≡◌}
use Rattle.track_table.specs.Table.{without_connection}
use Rattle.prefix_table.specs.Table as registrations
use Rattle.serial_model.specs.State.{for_each}
use Rattle.serial_model.specs.Tracking.{ids_where}
use Rattle.server_book.specs.Endings.{is_ending}
use Rattle.server_book.proofs.Ended.{EndedTo}
use Rattle.server_book.proofs.stores.Stores.end_all.Given as goal

abbrev pub invariant-loop-place : goal.invariant-loop-place
invariant-loop-place l = record {
  space : l.self.space ≡ l.initial.self.space;
  table : l.self.table ≡ record l.initial.self.table {
    rows = for_each without_connection
        (ids_where (is_ending l.ends l.initial.self.connections.items) l.place)
        l.initial.self.table.rows;
  };
  prefixes : l.self.prefixes ≡ for_each registrations.without_connection
      (ids_where (is_ending l.ends l.initial.self.connections.items) l.place)
      l.initial.self.prefixes;
  ended : EndedTo l.entry l.ends l.initial.self.connections l.place l.self.connections;
}
