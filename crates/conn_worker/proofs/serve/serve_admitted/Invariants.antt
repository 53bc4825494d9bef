use Rattle.std.proofs.Common.{◌≡◌, length}
use Rattle.conn_worker.specs.Visits.{standing}
use Rattle.conn_worker.specs.Rounds.{most_read}
use Rattle.conn_worker.specs.Serving.{Serving}
use Rattle.conn_worker.proofs.serve.serve_admitted.Given as goal

abbrev pub invariant-loop : goal.invariant-loop
invariant-loop g l =
    (goal.iterator-loop g).can_next l.iterator' × (goal.iterator-loop g).is_finite l.iterator'
    × Serving (g.C.Clock.moment l.clock) l.initial.connection.id l.connection
    (standing (g.L.Link.left l.initial.link) (g.L.Link.contents l.initial.link)
    (g.L.Link.counts l.initial.link) l.initial.seat)
    (standing (g.L.Link.left l.link) (g.L.Link.contents l.link) (g.L.Link.counts l.link) l.seat)
    × (length l.buffer ≡ most_read)
