use Rattle.std.proofs.Common.{◌≡◌, ◌∙◌, sym, subst, true, false, length, take, arith}
use Rattle.std.specs.Prelude.{nat_le}
use Rattle.std.proofs.lemmas.Bool.Decides.{nat_tests}
use Rattle.std.proofs.lemmas.Result.{err_from_is_err_and}
use Rattle.resp_stream.specs.Stream.{Stream, fed}
use Rattle.server_links.specs.declared.fault.WorldFault.TheVariants.{NoMemory}
use Rattle.server_links.specs.Directions.{without}
use Rattle.server_links.specs.Moves.{serve, run_fed}
use Rattle.server_links.specs.Outcome.{Stops}
use Rattle.server_links.specs.Session.{session, with_reader, with_up}
use Rattle.server_links.proofs.Playing.{serve_some, fed_stops, fed_gives}
use Rattle.server_links.proofs.link.Link.serve.Goals as goal

pub returns-in_err-feed : goal.returns-in_err-feed
returns-in_err-feed c =
    let s = session c.args.server.now c.args.self.now in
    let n = c.in-Some.count in
    let le : nat_le n (length s.link.up.bytes) ≡ true =
    grind (arith, nat_tests, c.if-count-len.false, c.len.ensures) in
    let p = err_from_is_err_and c.from_residual.result c.from_residual.ensures.1 in
    rw p.1 (rw p.2
    (subst (λ (r : Stream). Stops (serve c.args.count s) c.args.lines.now NoMemory
    (session c.args.server.now (with_reader c.args.self.now r)) c.args.lines.now)
    (sym c.in_err-feed.ensures.err)
    (rw (serve_some c.args.count n s c.in-Some.is (sym c.reads_on.ensures
    ∙ c.if-not-reads_on.false) le) (fed_stops _ _ s _ c.args.lines.now))))

pub returns : goal.returns
returns c =
    let link = c.args.self.now in
    let s = session c.args.server.now link in
    let n = c.in-Some.count in
    let le : nat_le n (length link.up.bytes) ≡ true =
    grind (arith, nat_tests, c.if-count-len.false, c.len.ensures) in
    let s1 = session c.args.server.now (with_reader (with_up link c.pass.new.self) c.feed.new.self)
    in
    let up = without n link.up in
    let same : s1
    ≡ session c.args.server.now (with_reader (with_up link up)
    (fed link.reader (take n link.up.bytes))) = grind arith in
    rw (serve_some c.args.count n s c.in-Some.is (grind arith) le)
    (fed_gives (take n link.up.bytes) up s s1 (run_fed false) c.args.lines.now c.run_fed.result _
    c.run_fed.new.lines same c.run_fed.ensures)
