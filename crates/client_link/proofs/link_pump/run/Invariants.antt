use Rattle.std.proofs.Common.{◌≡◌}
use Rattle.client_link.proofs.Pumping.{Pumping}
use Rattle.client_link.proofs.link_pump.run.Given as goal

abbrev pub invariant-loop : goal.invariant-loop
invariant-loop g l =
    (goal.iterator-loop g).can_next l.iterator' × (goal.iterator-loop g).is_finite l.iterator'
    × Pumping l.wire l.reader (g.L.Link.left l.initial.link) (g.L.Link.left l.link)
    (g.L.Link.contents l.initial.link) (g.L.Link.contents l.link) l.initial.seat l.seat
    × ((g.L.Link.counts l.link).faults ≡ (g.L.Link.counts l.initial.link).faults)
    × ((g.L.Link.counts l.link).ends ≡ (g.L.Link.counts l.initial.link).ends)
