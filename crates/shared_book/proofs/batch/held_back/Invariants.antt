use Rattle.std.proofs.Common.{◌≡◌, ◌∷◌, ◌++◌}
use Rattle.std.specs.Vec.Iter.{into_iter_items, into_iter_len}
use Rattle.shared_book.proofs.batch.held_back.Given as goal

abbrev pub invariant-calls : goal.invariant-calls
invariant-calls l =
    l.fn.first ∷ into_iter_items l.fn.rest ≡ l.held.items ++ into_iter_items l.rest

abbrev pub decreases-calls : goal.decreases-calls
decreases-calls l = into_iter_len l.rest
