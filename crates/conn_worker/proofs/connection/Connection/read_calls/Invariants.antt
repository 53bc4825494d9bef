use Rattle.std.proofs.Common.{length}
use Rattle.std.specs.List.{All}
use Rattle.shared_book.specs.Batches.{IsRunAt}
use Rattle.conn_worker.proofs.Running.{Reading}
use Rattle.conn_worker.proofs.connection.Connection.read_calls.Given as goal

abbrev pub invariant-requests : goal.invariant-requests
invariant-requests g l =
    Reading l.initial.self l.self l.calls.items
    × All (IsRunAt l.initial.self.id l.now) l.calls.items

abbrev pub decreases-requests : goal.decreases-requests
decreases-requests g l = length l.self.reader.rest
