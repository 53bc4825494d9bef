use Rattle.std.proofs.Common.{◌∙◌, append-nil, refl, sym}
use Rattle.server_links.specs.Session.{session}
use Rattle.server_links.proofs.Playing.{stop_off, stop_on}
use Rattle.server_links.proofs.link.Link.stop.Goals as goal

pub returns-then-reads_on : goal.returns-then-reads_on
returns-then-reads_on c =
    rw (stop_on c.args.fault c.args.eof (session c.args.server.now c.args.self.now)
    (sym c.reads_on.ensures ∙ c.if-reads_on.true)) c.stop_open.ensures

pub returns : goal.returns
returns c =
    rw (stop_off c.args.fault c.args.eof (session c.args.server.now c.args.self.now)
    (sym c.reads_on.ensures ∙ c.if-reads_on.false)) (refl, refl, sym (append-nil c.args.lines.now))
