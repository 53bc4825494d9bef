use Rattle.std.proofs.Common.{◌≡◌, ◌+◌, []}
use Rattle.std.specs.List.{All}
use Rattle.std.specs.Vec.Iter.{into_iter_items, into_iter_len}
use Rattle.turn_lock.specs.Seats.{StopsAt}
use Rattle.shared_book.specs.declared.batch.BatchEnd.{BatchEnd}
use Rattle.shared_book.specs.Batches.{Counts, IsOfRun, Tells, ends_batch, ran_in}
use Rattle.shared_book.proofs.batch.told.Given as goal

abbrev pub invariant-answers : goal.invariant-answers
invariant-answers l =
    (l.fn.requests + ran_in l.fn.answers.items
    ≡ l.requests + ran_in (into_iter_items l.rest))
    × ((end : BatchEnd) → Tells l.held.items (into_iter_items l.rest) l.fn.last end
    → Tells [] l.fn.answers.items l.fn.last end)
    × Counts l.requests (into_iter_items l.rest) × All IsOfRun (into_iter_items l.rest)
    × StopsAt ends_batch (into_iter_items l.rest) × (l.last ≡ l.fn.last)

abbrev pub decreases-answers : goal.decreases-answers
decreases-answers l = into_iter_len l.rest
