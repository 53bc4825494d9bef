use Rattle.server_links.specs.Session.{session}
use Rattle.server_links.proofs.link.Link.play.Goals as goal

pub returns-in-Recv : goal.returns-in-Recv
returns-in-Recv c = rw c.in-Recv.is (c.receive.ensures (session c.args.server.now c.args.self.now))
