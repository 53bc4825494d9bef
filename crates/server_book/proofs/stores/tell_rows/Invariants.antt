use Rattle.std.proofs.Common.{◌≡◌, None, take}
use Rattle.serial_model.specs.Tracking.{drop_group}
use Rattle.server_book.specs.Sendings.{unpassed, with_told}
use Rattle.server_book.proofs.stores.tell_rows.Given as goal

abbrev pub invariant-loop-place : goal.invariant-loop-place
invariant-loop-place l =
    l.connections
    ≡ with_told l.entry (unpassed None (drop_group (take l.place l.rows))) l.initial.connections
