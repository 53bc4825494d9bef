use Rattle.std.proofs.Common.{◌≡◌, ◌+◌, ◌≤◌, true, false}
use Rattle.std.specs.Prelude.{Some}
use Rattle.std.specs.List.{All}
use Rattle.std.specs.Vec.{vec_len, vec_capacity}
use Rattle.std.specs.Vec.Iter.{into_iter_items, into_iter_len}
use Rattle.turn_lock.specs.Seats.{StopsAt}
use Rattle.turn_lock.proofs.Turns.{Turning}
use Rattle.turn_lock.proofs.batch.take_turns.Given as goal

abbrev pub ghosts-take_or_pass : goal.ghosts-take_or_pass
ghosts-take_or_pass g a = record { item = Some a.call }

abbrev pub invariant-turns : goal.invariant-turns
invariant-turns g l =
    (l.place.table_id ≡ l.initial.place.table_id) × (l.place.id ≡ l.initial.place.id)
    × (vec_len l.replies + into_iter_len l.rest ≤ vec_capacity l.replies)
    × Turning g.S.Logged.setup g.S.Logged.stands g.S.Logged.step g.S.Logged.fits
    l.fn.calls.items l.initial.place.table_id l.initial.place.me.0 l.at
    (into_iter_len l.rest) (into_iter_items l.rest) l.replies.items l.place.me
    × All g.S.Refusing.refusable (into_iter_items l.rest)
    × StopsAt g.S.Refusing.refuses l.replies.items
    × (l.is_over ≡ false → All (λ r. g.S.Refusing.refuses r ≡ false) l.replies.items)
    × (l.is_over ≡ true → (r : _) × (g.S.Refusing.refuses r ≡ true))

abbrev pub decreases-turns : goal.decreases-turns
decreases-turns g l = into_iter_len l.rest
