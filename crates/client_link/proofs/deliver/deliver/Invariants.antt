use Rattle.std.proofs.Common.{◌≡◌}
use Rattle.std.specs.Io.KnownBytes.{Keeps}
use Rattle.client_link.proofs.Delivering.{Delivering}
use Rattle.client_link.proofs.deliver.deliver.Given as goal

abbrev pub invariant-loop : goal.invariant-loop
invariant-loop g l =
    (goal.iterator-loop g).can_next l.iterator' × (goal.iterator-loop g).is_finite l.iterator'
    × Delivering l.wire (g.L.Link.contents l.initial.link) (g.L.Link.contents l.link)
    l.initial.seat l.seat
    × Keeps (g.L.Link.left l.initial.link) (g.L.Link.left l.link)
    × (g.L.Link.counts l.link ≡ g.L.Link.counts l.initial.link)
