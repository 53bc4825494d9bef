use Rattle.std.proofs.Common.{◌≡◌, ◌≤◌, ◌++◌, length}
use Rattle.shared_cache.specs.Held.{held}
use Rattle.resp_stream.specs.Stream.{begun}
use Rattle.world_run.specs.Members.{seat}
use Rattle.world_run.specs.ClientMoves.{held_lines}
use Rattle.world_run.proofs.member.Member.put_held.Given as goal

abbrev pub invariant-loop-place : goal.invariant-loop-place
invariant-loop-place l =
    (l.place ≤ length (held l.self.state.setup l.self.state.past))
    × (l.lines ≡ l.initial.lines ++ held_lines l.place (seat l.links l.self begun))
