use Rattle.std.proofs.Common.{◌≡◌, Some, take, append-nil, refl, subst, sym, arith}
use Rattle.std.proofs.lemmas.Result.{err_from_is_err_and}
use Rattle.resp_stream.specs.Stream.{Stream, fed}
use Rattle.server_links.specs.declared.fault.WorldFault.TheVariants.{NoMemory}
use Rattle.server_links.specs.declared.link.LinkMove.TheVariants as moves
use Rattle.server_links.specs.LinkEvent.{Over}
use Rattle.server_links.specs.Outcome.{Stops}
use Rattle.server_links.proofs.Outcomes.{after_stops, gives_then, stops_first, stops_here}
use Rattle.world_run.specs.ClientMoves.{feed, hang_up, read_values, receive_bytes}
use Rattle.world_run.specs.Members.{Seat, link_of, links_do, seat, with_reader}
use Rattle.world_run.proofs.link_end.LinkEnd.receive_bytes.Goals as goal
use Rattle.world_run.proofs.link_end.LinkEnd.receive_bytes.Goals.{In_ok-feed}

pub returns-in_err-over-clause-gives : goal.returns-in_err-over-clause-gives
unfolding receive_bytes
returns-in_err-over-clause-gives c =
    let s = seat c.args.links.now c.args.member.now c.args.reader.now in
    let recv = Over c.args.self.now.link (moves.Recv (Some c.args.count)) in
    let p = err_from_is_err_and c.from_residual.result c.from_residual.ensures.1 in
    rw p.1 (rw p.2
    (stops_first (links_do recv s) _ c.args.lines.now _ _ _
    (c.in_err-over.ensures.gives c.args.member.now c.args.reader.now)))

-- the memory for the copy ran out before the reader was fed
pub returns-in_err-piece-clause-gives : goal.returns-in_err-piece-clause-gives
unfolding receive_bytes
returns-in_err-piece-clause-gives c =
    let e = c.args.self.now in
    let m = c.args.member.now in
    let r = c.args.reader.now in
    let s = seat c.args.links.now m r in
    let s1 = seat c.over.new.links m r in
    let recv = Over e.link (moves.Recv (Some c.args.count)) in
    let piece = take c.args.count (link_of e s).down.bytes in
    let p = err_from_is_err_and c.from_residual-in_err-piece.result
    c.from_residual-in_err-piece.ensures.1 in
    rw p.1 (rw p.2
    (after_stops (links_do recv s) _ c.args.lines.now s1 c.over.new.lines NoMemory s1
    c.over.new.lines (c.in_ok-over.ensures.gives m r)
    (stops_first (feed piece s1) _ c.over.new.lines NoMemory s1 c.over.new.lines
    (stops_here (feed piece s1) s1 c.over.new.lines refl))))

pub returns-in_err-feed-clause-gives : goal.returns-in_err-feed-clause-gives
unfolding receive_bytes
returns-in_err-feed-clause-gives c =
    let e = c.args.self.now in
    let m = c.args.member.now in
    let r = c.args.reader.now in
    let s = seat c.args.links.now m r in
    let s1 = seat c.over.new.links m r in
    let recv = Over e.link (moves.Recv (Some c.args.count)) in
    let piece = take c.args.count (link_of e s).down.bytes in
    let p = err_from_is_err_and c.from_residual-in_err-feed.result
    c.from_residual-in_err-feed.ensures.1 in
    rw p.1 (rw p.2
    (subst (λ (x : Stream). Stops (receive_bytes c.args.count e s) c.args.lines.now NoMemory
    (seat c.over.new.links m x) c.over.new.lines) (sym c.in_err-feed.ensures.err)
    (after_stops (links_do recv s) _ c.args.lines.now s1 c.over.new.lines NoMemory s1
    c.over.new.lines (c.in_ok-over.ensures.gives m r)
    (stops_first (feed piece s1) _ c.over.new.lines NoMemory s1 c.over.new.lines
    (stops_here (feed piece s1) s1 c.over.new.lines refl)))))

-- its reader was fed what was read
abbrev fed_seat : In_ok-feed → Seat
fed_seat c = seat c.over.new.links c.args.member.now c.feed.new.self

is_fed : (c : In_ok-feed) → fed_seat c
    ≡ with_reader (seat c.over.new.links c.args.member.now c.args.reader.now) (fed c.args.reader.now
    (take c.args.count
    (link_of c.args.self.now
    (seat c.args.links.now c.args.member.now c.args.reader.now)).down.bytes))
is_fed c = grind arith

pub returns-in_err-read_values-clause-gives : goal.returns-in_err-read_values-clause-gives
unfolding receive_bytes
returns-in_err-read_values-clause-gives c =
    let at = (goal.at.returns-in_err-read_values-clause-gives c).In_ok-feed in
    let e = c.args.self.now in
    let m = c.args.member.now in
    let r = c.args.reader.now in
    let s = seat c.args.links.now m r in
    let s1 = seat c.over.new.links m r in
    let recv = Over e.link (moves.Recv (Some c.args.count)) in
    let piece = take c.args.count (link_of e s).down.bytes in
    let p = err_from_is_err_and c.from_residual-in_err-read_values.result
    c.from_residual-in_err-read_values.ensures.1 in
    rw p.1 (rw p.2
    (after_stops (links_do recv s) _ c.args.lines.now s1 c.over.new.lines _ _ _
    (c.in_ok-over.ensures.gives m r)
    (after_stops (feed piece s1) _ c.over.new.lines (fed_seat at) c.over.new.lines _ _ _
    (refl, is_fed at, sym (append-nil c.over.new.lines))
    (stops_first (read_values e (fed_seat at)) (hang_up e) c.over.new.lines _ _ _
    c.in_err-read_values.ensures.gives))))

pub returns-clause-gives : goal.returns-clause-gives
unfolding receive_bytes
returns-clause-gives c =
    let at = (goal.at.returns-clause-gives c).In_ok-feed in
    let e = c.args.self.now in
    let m = c.args.member.now in
    let r = c.args.reader.now in
    let s = seat c.args.links.now m r in
    let s1 = seat c.over.new.links m r in
    let recv = Over e.link (moves.Recv (Some c.args.count)) in
    let piece = take c.args.count (link_of e s).down.bytes in
    let t1 = fed_seat at in
    let t2 = seat c.over.new.links c.read_values.new.member c.read_values.new.reader in
    let t = seat c.hang_up.new.links c.read_values.new.member c.read_values.new.reader in
    gives_then (links_do recv s) _ c.args.lines.now (tt {0}) s1 c.over.new.lines c.hang_up.result t
    c.hang_up.new.lines (c.in_ok-over.ensures.gives m r)
    (gives_then (feed piece s1) _ c.over.new.lines (tt {0}) t1 c.over.new.lines c.hang_up.result t
    c.hang_up.new.lines (refl, is_fed at, sym (append-nil c.over.new.lines))
    (gives_then (read_values e t1) (hang_up e) c.over.new.lines (tt {0}) t2 c.read_values.new.lines
    c.hang_up.result t c.hang_up.new.lines c.in_ok-read_values.ensures.gives
    (c.hang_up.ensures.gives c.read_values.new.reader)))
