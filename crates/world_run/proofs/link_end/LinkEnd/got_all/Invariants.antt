use Rattle.std.proofs.Common.{◌≡◌, length}
use Rattle.world_run.specs.Members.{seat}
use Rattle.server_links.proofs.Items.{Reads}
use Rattle.world_run.proofs.Received.{values}
use Rattle.world_run.proofs.link_end.LinkEnd.got_all.Given as goal

abbrev pub invariant-values : goal.invariant-values
invariant-values l =
    Reads (values l.self) (seat l.links l.initial.member l.initial.reader)
    (seat l.links l.member l.reader) l.initial.lines l.lines
    × (l.member.state.setup ≡ l.initial.member.state.setup)

abbrev pub decreases-values : goal.decreases-values
decreases-values l = length l.reader.rest
