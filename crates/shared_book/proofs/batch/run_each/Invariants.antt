use Rattle.std.proofs.Common.{◌≡◌}
use Rattle.std.specs.Vec.Iter.{into_iter_items, into_iter_len}
use Rattle.shared_book.specs.Batches.{requests_in}
use Rattle.shared_book.proofs.Each.{Running}
use Rattle.shared_book.proofs.batch.run_each.Given as goal

abbrev pub invariant-calls : goal.invariant-calls
invariant-calls g l =
    Running l.id l.now l.fn.requests (requests_in l.fn.calls.items) l.requests
    (into_iter_items l.rest) l.initial.seat l.seat
    × (l.seat.lock ≡ l.initial.seat.lock)

abbrev pub decreases-calls : goal.decreases-calls
decreases-calls g l = into_iter_len l.rest
