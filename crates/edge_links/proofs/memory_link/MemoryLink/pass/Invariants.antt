use Rattle.std.proofs.Common.{◌≡◌, length}
use Rattle.std.specs.Io.KnownBytes.{Keeps}
use Rattle.edge_links.specs.MemoryLinks.{bytes_to_come}
use Rattle.edge_links.proofs.memory_link.MemoryLink.pass.Given as goal

abbrev pub invariant-loop-self : goal.invariant-loop-self
invariant-loop-self l =
    Keeps (bytes_to_come l.initial.self) (bytes_to_come l.self) × (l.self.written ≡
    l.initial.self.written)
    × (l.self.counts ≡ l.initial.self.counts)

abbrev pub decreases-loop-self : goal.decreases-loop-self
decreases-loop-self l = length l.self.steps.items
