use Rattle.std.proofs.Common.{◌≡◌, take}
use Rattle.serial_model.specs.Tracking.{drop_group}
use Rattle.server_book.specs.Sendings.{unpassed, with_told}
use Rattle.server_book.proofs.Groups.{each_row}
use Rattle.server_book.proofs.stores.Stores.tell_holders.Given as goal

abbrev pub invariant-loop-place : goal.invariant-loop-place
invariant-loop-place l = record {
  table : l.self.table ≡ l.initial.self.table;
  space : l.self.space ≡ l.initial.self.space;
  prefixes : l.self.prefixes ≡ l.initial.self.prefixes;
  told : l.self.connections
      ≡ with_told l.entry
      (unpassed l.but (drop_group (take l.place (each_row l.keys l.initial.self.table.rows))))
      l.initial.self.connections;
}
