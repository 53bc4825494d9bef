use Rattle.std.proofs.Common.{◌≡◌}
use Rattle.std.specs.Io.KnownBytes.{Keeps}
use Rattle.shared_book.specs.Batches.{requests_in}
use Rattle.conn_worker.specs.Visits.{standing}
use Rattle.conn_worker.proofs.Progress.{InProgress}
use Rattle.conn_worker.proofs.connection.Connection.run_parts.Given as goal

abbrev pub invariant-loop : goal.invariant-loop
invariant-loop g l =
    (goal.iterator-loop g).can_next l.iterator' × (goal.iterator-loop g).is_finite l.iterator'
    × InProgress l.now l.initial.self.id (requests_in l.fn.calls.items) l.initial.self.requests
    l.calls.items l.self.requests
    (standing (g.L.Link.left l.initial.link) (g.L.Link.contents l.initial.link)
    (g.L.Link.counts l.initial.link) l.initial.seat)
    (standing (g.L.Link.left l.link) (g.L.Link.contents l.link) (g.L.Link.counts l.link) l.seat)
    × (l.self.id ≡ l.initial.self.id) × (l.self.reader ≡ l.initial.self.reader)
    × Keeps (g.L.Link.left l.initial.link) (g.L.Link.left l.link)
    × (g.L.Link.counts l.link ≡ g.L.Link.counts l.initial.link)
