use Rattle.std.proofs.Common.{◌≡◌, take}
use Rattle.std.specs.List.{flat_map}
use Rattle.server_book.specs.Sendings.{told_at, unpassed, with_told}
use Rattle.server_book.proofs.stores.Stores.tell_prefixes.Given as goal

abbrev pub invariant-loop-place : goal.invariant-loop-place
invariant-loop-place l = record {
  table : l.self.table ≡ l.initial.self.table;
  space : l.self.space ≡ l.initial.self.space;
  prefixes : l.self.prefixes ≡ l.initial.self.prefixes;
  told : l.self.connections
      ≡ with_told l.entry
      (unpassed l.but
      (flat_map (told_at l.keys l.initial.self.prefixes) (take l.place-index l.place-items)))
      l.initial.self.connections;
}
