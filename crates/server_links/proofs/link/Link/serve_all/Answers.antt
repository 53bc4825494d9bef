use Rattle.std.proofs.Common.{◌≡◌, ◌∙◌, sym, ap, subst, append-nil, arith}
use Rattle.std.proofs.lemmas.Result.{err_from_is_err_and}
use Rattle.resp_stream.specs.Stream.{Stream, fed}
use Rattle.server_links.specs.declared.fault.WorldFault.TheVariants.{NoMemory}
use Rattle.server_links.specs.Directions.{is_queued, past_eof, without_bytes}
use Rattle.server_links.specs.Moves.{serve_all, run_fed}
use Rattle.server_links.specs.Outcome.{Stops}
use Rattle.server_links.specs.Session.{session, with_reader, with_up}
use Rattle.server_links.proofs.Playing.{serve_off, serve_on, fed_stops, fed_gives}
use Rattle.server_links.proofs.link.Link.serve_all.Goals as goal

pub returns-then-not-reads_on : goal.returns-then-not-reads_on
returns-then-not-reads_on c = grind (arith, serve_off, append-nil)

pub returns-in_err-feed : goal.returns-in_err-feed
returns-in_err-feed c =
    let s = session c.args.server.now c.args.self.now in
    let p = err_from_is_err_and c.from_residual.result c.from_residual.ensures.1 in
    rw p.1 (rw p.2
    (subst (λ (r : Stream). Stops (serve_all s) c.args.lines.now NoMemory
    (session c.args.server.now (with_reader c.args.self.now r)) c.args.lines.now)
    (sym c.in_err-feed.ensures.err)
    (rw (serve_on s (sym c.reads_on.ensures ∙ c.if-not-reads_on.false))
    (fed_stops _ _ s _ c.args.lines.now))))

pub returns : goal.returns
returns c =
    let link = c.args.self.now in
    let s = session c.args.server.now link in
    let s1 = session c.args.server.now (with_reader (with_up link c.pass_eof.new.self)
    c.feed.new.self) in
    let up = past_eof (without_bytes link.up) in
    let same : s1
    ≡ session c.args.server.now (with_reader (with_up link up) (fed link.reader link.up.bytes))
    =
    ap (λ u. session c.args.server.now (with_reader (with_up link u) c.feed.new.self))
    (c.pass_eof.ensures ∙ ap past_eof c.pass_all.ensures)
    ∙ ap (λ r. session c.args.server.now (with_reader (with_up link up) r)) (c.in_ok-feed.ensures.ok
    ∙ ap (fed link.reader) c.as_slice.ensures) in
    rw (serve_on s (sym c.reads_on.ensures ∙ c.if-not-reads_on.false))
    (fed_gives link.up.bytes up s s1 (run_fed (is_queued link.up.eof)) c.args.lines.now
    c.run_fed.result _ c.run_fed.new.lines same
    (grind arith))
