use Rattle.std.proofs.Common.{length}
use Rattle.server_links.proofs.Items.{Reads}
use Rattle.server_links.proofs.Serving.{requests}
use Rattle.server_links.specs.Session.{session}
use Rattle.server_links.proofs.link.Link.run_requests.Given as goal

abbrev pub invariant-requests : goal.invariant-requests
invariant-requests l =
    Reads requests (session l.initial.server l.initial.self) (session l.server l.self)
    l.initial.lines l.lines

abbrev pub decreases-requests : goal.decreases-requests
decreases-requests l = length l.self.reader.rest
