use Rattle.std.proofs.Common.{◌≡◌, ◌≤◌, ◌<◌, ◌-◌, ℕ, length}
use Rattle.server_links.proofs.Outcomes.{Ends}
use Rattle.world_run.specs.World.{flow_first}
use Rattle.world_run.specs.WorldState.{IsOver}
use Rattle.world_run.proofs.world.World.flow_all.Given as goal

abbrev pub invariant-links : goal.invariant-links
invariant-links l =
    Ends (flow_first l.at l.fn.self) l.initial.lines l.self l.lines
    × (l.over ≤ l.at) × (l.at ≤ length l.fn.self.links.links)
    × (length l.self.links.links ≡ length l.fn.self.links.links)
    × ((k : ℕ) → l.over ≤ k → k < l.at → IsOver l.self k)

abbrev pub decreases-links : goal.decreases-links
decreases-links l = length l.fn.self.links.links - l.at
