use Rattle.std.proofs.Common.{◌≡◌, ◌++◌, ℕ, List, length}
use Rattle.std.specs.Io.KnownBytes.{Appends, Keeps}
use Rattle.edge_links.proofs.writing.write_all.Given as goal

abbrev pub invariant-loop-rest : goal.invariant-loop-rest
invariant-loop-rest g l =
    (done : List ℕ) × (l.bytes ≡ done ++ l.rest)
    × Appends (g.L.Link.contents l.initial.link) (g.L.Link.contents l.link) done
    × (g.L.Link.counts l.link ≡ g.L.Link.counts l.initial.link)
    × Keeps (g.L.Link.left l.initial.link) (g.L.Link.left l.link)

abbrev pub decreases-loop-rest : goal.decreases-loop-rest
decreases-loop-rest g l = length l.rest
