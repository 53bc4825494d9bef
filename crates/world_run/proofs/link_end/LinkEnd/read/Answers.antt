use Rattle.std.proofs.Common.{◌≡◌, ℕ, Option, None, false, length, subst, arith}
use Rattle.std.proofs.lemmas.Result.{err_from_is_err_and}
use Rattle.server_links.specs.Outcome.{Gives, Stops, and_then}
use Rattle.server_links.proofs.Outcomes.{gives_then, stops_first}
use Rattle.world_run.specs.ClientMoves.{has_ended, read, receive_bytes, receive_eof}
use Rattle.world_run.specs.Members.{Seat, link_of, seat}
use Rattle.world_run.specs.WorldState.{LinkEnd}
use Rattle.world_run.proofs.link_end.LinkEnd.read.Goals as goal

opened : (count : Option ℕ) (e : LinkEnd) (s : Seat) (n : ℕ) → count ≡ None
    → has_ended e.wire s ≡ false → n ≡ length (link_of e s).down.bytes
    → and_then (receive_bytes n e s) (receive_eof e) ≡ read count e s
opened count e s n none on is = grind arith

pub returns-in_err-receive_bytes-in-None-2-clause-gives :
    goal.returns-in_err-receive_bytes-in-None-2-clause-gives
returns-in_err-receive_bytes-in-None-2-clause-gives c =
    let e = c.args.self.now in
    let s = seat c.args.links.now c.args.member.now c.args.reader.now in
    let n = length c.in_flight.result.now in
    let t = seat c.receive_bytes.new.links c.receive_bytes.new.member c.receive_bytes.new.reader in
    let fault = c.in_err-receive_bytes-in-None-2.field-0.0 in
    let p = err_from_is_err_and c.from_residual.result c.from_residual.ensures.1 in
    rw p.1 (rw p.2
    (subst (λ o. Stops o c.args.lines.now fault t c.receive_bytes.new.lines)
    (opened c.args.count e s n c.in-None.is (grind arith) (grind arith))
    (stops_first (receive_bytes n e s) (receive_eof e) c.args.lines.now fault t
    c.receive_bytes.new.lines c.in_err-receive_bytes-in-None-2.ensures.gives)))

pub returns-in_ok-receive_bytes-in-None-2-clause-gives :
    goal.returns-in_ok-receive_bytes-in-None-2-clause-gives
returns-in_ok-receive_bytes-in-None-2-clause-gives c =
    let e = c.args.self.now in
    let s = seat c.args.links.now c.args.member.now c.args.reader.now in
    let n = length c.in_flight.result.now in
    let r = c.receive_bytes.new.reader in
    let s1 = seat c.receive_bytes.new.links c.receive_bytes.new.member r in
    let t = seat c.receive_eof.new.links c.receive_eof.new.member r in
    subst (λ o. Gives o c.args.lines.now c.receive_eof.result t c.receive_eof.new.lines)
    (opened c.args.count e s n c.in-None.is (grind arith) (grind arith))
    (gives_then (receive_bytes n e s) (receive_eof e) c.args.lines.now (tt {0}) s1
    c.receive_bytes.new.lines c.receive_eof.result t c.receive_eof.new.lines
    c.in_ok-receive_bytes-in-None-2.ensures.gives (c.receive_eof.ensures.gives r))
