use Rattle.std.proofs.Common.{◌≡◌, length, slice_index_or}
use Rattle.serial_model.specs.Tracking.{ids_where}
use Rattle.server_book.specs.Sendings.{tracks}
use Rattle.server_book.proofs.connections.Connections.tracking.Given as goal

abbrev pub invariant-loop-nth : goal.invariant-loop-nth
invariant-loop-nth l =
    l.ids.items
    ≡ ids_where (tracks l.fn.self.items) (slice_index_or l.places l.nth (length l.fn.self.items))
