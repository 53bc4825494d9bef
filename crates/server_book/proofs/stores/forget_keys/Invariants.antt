use Rattle.std.proofs.Common.{◌≡◌, length}
use Rattle.track_table.specs.Table.{without_keys}
use Rattle.server_book.proofs.stores.forget_keys.Given as goal

abbrev pub invariant-keys : goal.invariant-keys
invariant-keys l = record {
  limit : l.table.limit ≡ l.initial.table.limit;
  rows : without_keys l.left l.table.rows ≡ without_keys l.keys l.initial.table.rows;
}

abbrev pub decreases-keys : goal.decreases-keys
decreases-keys l = length l.left
