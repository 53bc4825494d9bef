-- The moves of a client in a world: what it sends, what it reads, what it answers and shows.
use Rattle.std.proofs.Common.{◌≡◌, ◌<◌, ℕ, zero, suc, List, [], ◌∷◌, ◌++◌, Bool, true, false, cond}
use Rattle.std.proofs.Common.{not, Some, None, Option, length, map, refl, sym, ap, subst, take, ◌∙◌}
use Rattle.std.proofs.Common.{arith, append-nil}
use Rattle.std.specs.Prelude.{◌&&◌, nat_le}
use Rattle.std.proofs.lemmas.List.{drop_all}
use Rattle.resp_value.specs.Lists.{IsPrefix}
use Rattle.resp_value.specs.ValueTree.{tree_of}
use Rattle.resp_stream.specs.Parse.{values_of}
use Rattle.serial_model.specs.declared.history.Limits.{Limits}
use Rattle.shared_cache.specs.declared.entry.CacheEntry.{CacheEntry}
use Rattle.shared_cache.specs.declared.log.ClientCall.{ClientCall}
use Rattle.shared_cache.specs.declared.log.ClientCall.TheVariants as call
use Rattle.shared_cache.specs.declared.log.Wire.{Wire}
use Rattle.shared_cache.specs.declared.log.Wire.TheVariants.{Main, Side}
use Rattle.shared_cache.specs.Laws.{AsksQuery, Every, IsCall}
use Rattle.shared_cache.specs.Log.{HasWire, is_ended}
use Rattle.shared_cache.specs.Out.{untaken}
use Rattle.shared_cache.specs.Steps.{client_step}
use Rattle.script_text.specs.declared.line.Line.{Line}
use Rattle.server_links.specs.declared.fault.WorldFault.TheVariants.{NothingThere}
use Rattle.server_links.specs.declared.link.LinkMove.TheVariants as moves
use Rattle.server_links.specs.Directions.{is_queued}
use Rattle.server_links.specs.LinkEvent.{LinkEvent, Put, Over}
use Rattle.server_links.specs.LinksState.{LinksState, at_place}
use Rattle.server_links.specs.LinkSteps.{place_of, step}
use Rattle.server_links.specs.Moves.{all_bytes}
use Rattle.server_links.specs.OneHistory.{read_on, said_by}
use Rattle.server_links.specs.Outcome.{Outcome, and_then, does, refuses, stays}
use Rattle.server_links.specs.Transcript.{heard_at, is_place}
use Rattle.server_links.proofs.Names.{AreUnique, names_itself, place_is}
use Rattle.world_run.specs.WorldState.{EndState, LinkEnd, MemberState, WorldState, client_at}
use Rattle.world_run.specs.WorldState.{end_at, link_on, place_on}
use Rattle.world_run.specs.Members.{Seat, link_of, links_do, seat_at, with_seat}
use Rattle.world_run.specs.ClientMoves.{bytes_of, feed, flow, hang_up, hang_up_main, has_ended}
use Rattle.world_run.specs.ClientMoves.{held_lines, listed_line, out, print, read, read_values}
use Rattle.world_run.specs.ClientMoves.{receive, receive_bytes, receive_eof, show, shown, take_out}
use Rattle.world_run.specs.ClientMoves.{turn}
use Rattle.world_run.proofs.Links.{IsUnread, Mute, Mutes, name_of_event, step_mutes, step_reads}
use Rattle.world_run.proofs.Reading.{Ahead, Done, Fed, With, end_reads, feed_reads, values_reads}
use Rattle.world_run.proofs.Members.{EndPart, MemberPart}
use Rattle.world_run.proofs.SeatMoves.{seat_linked, seat_moved}
use Rattle.world_run.proofs.Seats.{IsEnd, One, Plain, Seating, Steady, Working, end_back, one_then}
use Rattle.world_run.proofs.SeatTurns.{old_part, one_prints, one_refuses, one_stays, one_turn}
use Rattle.world_run.proofs.SeatTurns.{works_as}
use Rattle.world_run.proofs.Turns.{IsApart, IsHere, take_takes, turn_keeps}
use Rattle.world_run.proofs.Worlds.{Holds, Reads, ReadsOn, Each}

pub one_heard : (l : Limits) (heard heard' : ℕ → List ℕ) (raw : List ℕ → List ℕ) (at : ℕ)
    (M : Each) (lines : List Line) (w : WorldState) (m : Outcome Seat)
    → ((i : ℕ) → heard i ≡ heard' i)
    → One l raw at (λ ls u. Holds l heard raw M ls u) lines w m
    → One l raw at (λ ls u. Holds l heard' raw M ls u) lines w m
one_heard l heard heard' raw at M lines w m same h = grind arith

-- nothing is in flight to the client
abbrev pub NoBytes : LinksState → ℕ → Type 0
NoBytes ls i = (at_place ls.links i).down.bytes ≡ []

-- a client's links are found at their places
pub client_place : (ls : LinksState) → AreUnique ls → (m : MemberState) → MemberPart ls m
    → (u : Wire) → HasWire m.state.setup.mode.shape u
    → place_of (link_on u m.name) ls ≡ Some (place_on u m)
client_place ls unique m p u has =
    place_is ls unique (link_on u m.name) (place_on u m) (p.below u has) (p.placed u has)

pub end_place : (ls : LinksState) → AreUnique ls → (read : List ℕ) (e : LinkEnd) (m : MemberState)
    → EndPart ls read e m → place_of e.link ls ≡ Some e.place
end_place ls unique read e m p =
    ap (λ n. place_of n ls) p.named ∙ client_place ls unique m p.member e.wire p.has
    ∙ ap Some (sym p.place_is)

unheard : (heard : ℕ → List ℕ) (p : Option ℕ) (i : ℕ)
    → heard i ++ cond (is_place p i) [] [] ≡ heard i
unheard heard p i = grind (arith, append-nil)

module _ (l : Limits) (raw : List ℕ → List ℕ) (at : ℕ) where
  -- by an event by which nothing is read, the client has read what it had
  still_reads : (lines : List Line) (w : WorldState) (event : LinkEvent) → IsUnread event
      → (step w.links event).fault ≡ None → let e = end_at w.ends at in let n = e.end.link in
      Reads (read_on n lines) e (client_at w at)
      → Reads (read_on n lines ++ read_on n (step w.links event).lines) e (client_at w at)
  unfolding Mute Mutes
  still_reads lines w event none ok r =
      let e = end_at w.ends at in
      let n = e.end.link in
      subst (λ x. Reads x e (client_at w at))
      (sym (ap (λ x. read_on n lines ++ x) ((step_mutes w.links event none).ends ok n)
      ∙ append-nil (read_on n lines))) r

  -- an event of any link, which puts nothing and by which nothing is read
  unread_steps : (heard : ℕ → List ℕ) (lines : List Line) (w : WorldState)
      → Holds l heard raw (Seating at [] Steady) lines w → IsEnd at w
      → (event : LinkEvent) → IsUnread event → ((n : List ℕ) → said_by n event ≡ [])
      → One l raw at (λ ls u. Holds l (λ i. heard i ++ heard_at w.links i event) raw
      (Seating at [] Steady) ls u) lines w (links_do event (seat_at at w))
  unfolding Mute Mutes
  unread_steps heard lines w h below event none puts =
      seat_moved l heard raw at [] Steady Steady lines w h below event
      (λ k lt other. let n = (end_at w.ends k).end.link in record {
        said = puts n;
        reads = λ ok. (step_mutes w.links event none).ends ok n;
      })
      (λ n free. puts n) (puts (end_at w.ends at).end.link) (still_reads lines w event none)

  module _ (heard : ℕ → List ℕ) where
    -- ---- bytes go out

    taken_turn : (most : ℕ) (lines : List Line) (w : WorldState)
        → With l heard raw at (λ ls i. Unit {0}) Steady lines w → IsEnd at w
        → let s = seat_at at w in
        let e = (end_at w.ends at).end in
        let c = call.TakeOut e.wire most in
        let t = client_step s.member.state.setup s.member.state.past c in
        One l raw at (λ ls u. Holds l heard raw (Seating at (bytes_of t.reply) Steady) ls u) lines w
        (turn c e s)
    taken_turn most lines w h below =
        let m = client_at w at in
        let e = (end_at w.ends at).end in
        let c = call.TakeOut e.wire most in
        let p = old_part l heard raw at Steady lines w h below in
        let k = take_takes m.state.setup e.wire m.state.past most in
        one_turn l heard raw at Steady lines w h below c p.has tt refl
        (bytes_of (client_step m.state.setup m.state.past c).reply)
        k.taken_is
        (λ got r. subst (λ x. IsPrefix (map tree_of x) (values_of (read_on e.link lines)))
        (sym k.gots_are) got)
        Steady
        (λ none r going.
        let q = r (sym k.ended_is ∙ going) in
        record { gots_are = ap (map tree_of) k.gots_are ∙ q.gots_are; reading = q.reading })

    put_says : (name bytes : List ℕ) → said_by name (Put name bytes) ≡ bytes
    put_says name bytes = ap (λ b. cond b bytes []) (names_itself name name refl)

    take_stands : (most : ℕ) (lines : List Line) (w : WorldState)
        → With l heard raw at (λ ls i. Unit {0}) Steady lines w → IsEnd at w
        → One l raw at (With l heard raw at (λ ls i. Unit {0}) Steady) lines w
        (take_out most (end_at w.ends at).end (seat_at at w))
    unfolding take_out name_of_event IsUnread
    take_stands most lines w h below =
        let s = seat_at at w in
        let e = (end_at w.ends at).end in
        let t = client_step s.member.state.setup s.member.state.past (call.TakeOut e.wire most) in
        let first = turn (call.TakeOut e.wire most) e s in
        one_then l raw at
        (λ ls u. Holds l heard raw (Seating at (bytes_of t.reply) Steady) ls u)
        (With l heard raw at (λ ls i. Unit {0}) Steady) lines w below first
        (λ e. links_do (Put e.link (bytes_of t.reply)))
        (taken_turn most lines w h below)
        (λ none h' below'.
        let u = with_seat at w first.state in
        let name = (end_at u.ends at).end.link in
        let put = Put name (bytes_of t.reply) in
        one_heard l (λ i. heard i ++ heard_at u.links i put) heard raw at (Seating at [] Steady)
        (lines ++ first.lines) u (links_do put (seat_at at u)) (λ i. append-nil (heard i))
        (seat_linked l heard raw at (bytes_of t.reply) Steady Steady (lines ++ first.lines) u h'
        below' put refl (put_says name (bytes_of t.reply))
        (still_reads (lines ++ first.lines) u put tt)))

    pub out_stands : (count : Option ℕ) (lines : List Line) (w : WorldState)
        → With l heard raw at (λ ls i. Unit {0}) Steady lines w → IsEnd at w
        → One l raw at (With l heard raw at (λ ls i. Unit {0}) Steady) lines w
        (out count (end_at w.ends at).end (seat_at at w))
    out_stands None lines w h below =
        let s = seat_at at w in
        let e = (end_at w.ends at).end in
        elim (has_ended e.wire s) as (λ b.
        One l raw at (With l heard raw at (λ ls i. Unit {0}) Steady) lines w
        (cond b (stays s) (take_out all_bytes e s))) [
          | true ↦ one_stays l heard raw at Steady lines w h below Steady (λ r. r)
          | false ↦ take_stands all_bytes lines w h below
        ]
    out_stands (Some n) lines w h below =
        let s = seat_at at w in
        let e = (end_at w.ends at).end in
        elim (not (has_ended e.wire s)
        && nat_le n (length (untaken s.member.state.setup e.wire s.member.state.past))) as (λ b.
        One l raw at (With l heard raw at (λ ls i. Unit {0}) Steady) lines w
        (cond b (take_out n e s) (refuses s NothingThere))) [
          | true ↦ take_stands n lines w h below
          | false ↦ one_refuses l heard raw at Steady lines w h below
              (With l heard raw at (λ ls i. Unit {0}) Steady) NothingThere
        ]

    -- ---- bytes come in

    abbrev Quiet : (LinksState → ℕ → Type 0) → Working
    Quiet D ls read e m = Reads read e m
        × (is_ended m.state.setup.mode e.end.wire m.state.past ≡ false → D ls e.end.place)

    hang_stands : (D : LinksState → ℕ → Type 0) (lines : List Line) (w : WorldState)
        → With l heard raw at D (Done D) lines w → IsEnd at w
        → One l raw at (With l heard raw at D (Quiet D)) lines w
        (hang_up (end_at w.ends at).end (seat_at at w))
    unfolding name_of_event IsUnread
    hang_stands D lines w h below =
        let m = client_at w at in
        let e = (end_at w.ends at).end in
        let s = seat_at at w in
        let Q = Quiet D in
        let hang = Over e.link moves.HangUp in
        elim (has_ended e.wire s) as (λ b. has_ended e.wire s ≡ b
        → One l raw at (With l heard raw at D Q) lines w (cond b (links_do hang s) (stays s))) [
          | true ↦ λ ended.
              let gone : is_ended m.state.setup.mode e.wire m.state.past ≡ false → ⊥ =
              λ going. (let no : true ≡ false = sym ended ∙ going in cc) in
              one_heard l (λ i. heard i ++ heard_at w.links i hang) heard raw at (Seating at [] Q)
              lines w (links_do hang s) (unheard heard (place_of e.link w.links))
              (seat_linked l heard raw at [] (Done D) Q lines w h below hang refl refl
              (λ ok r. ((λ going. absurd (gone going)), (λ going. absurd (gone going)))))
          | false ↦ λ going. one_stays l heard raw at (Done D) lines w h below Q
              (λ r. (r.0, (λ on. r.1)))
        ] refl

    values_stand : (D : LinksState → ℕ → Type 0) (lines : List Line) (w : WorldState)
        → With l heard raw at D (Fed D) lines w → IsEnd at w
        → One l raw at (With l heard raw at D (Quiet D)) lines w
        (let e = (end_at w.ends at).end in
        and_then (read_values e (seat_at at w)) (hang_up e))
    values_stand D lines w h below =
        let m = read_values (end_at w.ends at).end (seat_at at w) in
        one_then l raw at (With l heard raw at D (Done D)) (With l heard raw at D (Quiet D)) lines w
        below m hang_up (values_reads l heard raw at D lines w h below)
        (λ none h' below'. hang_stands D (lines ++ m.lines) (with_seat at w m.state) h' below')

    piece_stands : (D : LinksState → ℕ → Type 0) (piece : List ℕ) (lines : List Line)
        (w : WorldState) → With l heard raw at D (Ahead D piece) lines w → IsEnd at w
        → One l raw at (With l heard raw at D (Quiet D)) lines w
        (let e = (end_at w.ends at).end in
        and_then (feed piece (seat_at at w)) (λ t. and_then (read_values e t) (hang_up e)))
    piece_stands D piece lines w h below =
        let m = feed piece (seat_at at w) in
        one_then l raw at (With l heard raw at D (Fed D)) (With l heard raw at D (Quiet D)) lines w
        below m (λ e t. and_then (read_values e t) (hang_up e))
        (feed_reads l heard raw at D piece lines w h below)
        (λ none h' below'. values_stand D (lines ++ m.lines) (with_seat at w m.state) h' below')

    bytes_stand : (D : LinksState → ℕ → Type 0) (n : ℕ) (lines : List Line) (w : WorldState)
        → With l heard raw at D Steady lines w → IsEnd at w
        → (let e = (end_at w.ends at).end in
        (step w.links (Over e.link (moves.Recv (Some n)))).fault ≡ None
        → D (step w.links (Over e.link (moves.Recv (Some n)))).state e.place)
        → One l raw at (With l heard raw at D (Quiet D)) lines w
        (receive_bytes n (end_at w.ends at).end (seat_at at w))
    unfolding receive_bytes name_of_event
    bytes_stand D n lines w h below leaves =
        let e = (end_at w.ends at).end in
        let s = seat_at at w in
        let recv = Over e.link (moves.Recv (Some n)) in
        let piece = take n (link_of e s).down.bytes in
        let there = end_place w.links h.links.unique (read_on e.link lines) e (client_at w at)
        (old_part l heard raw at Steady lines w h below) in
        let r = step_reads w.links e.link e.place (Some n) there in
        one_then l raw at (With l heard raw at D (Ahead D piece)) (With l heard raw at D (Quiet D))
        lines w below (links_do recv s)
        (λ e t. and_then (feed piece t) (λ t. and_then (read_values e t) (hang_up e)))
        (one_heard l (λ i. heard i ++ heard_at w.links i recv) heard raw at
        (Seating at [] (Ahead D piece)) lines w (links_do recv s)
        (unheard heard (place_of e.link w.links))
        (seat_linked l heard raw at [] Steady (Ahead D piece) lines w h below recv refl refl
        (λ ok q. (
          (read_on e.link lines, ap (λ x. read_on e.link lines ++ x) (r.reads ok), q),
          leaves ok,
        ))))
        (λ none h' below'. piece_stands D piece (lines ++ (links_do recv s).lines)
        (with_seat at w (links_do recv s).state) h' below')

    ended_stands : (lines : List Line) (w : WorldState)
        → With l heard raw at NoBytes Steady lines w → IsEnd at w
        → One l raw at (With l heard raw at NoBytes Steady) lines w
        (let e = (end_at w.ends at).end in turn (call.End e.wire) e (seat_at at w))
    ended_stands lines w h below =
        let e = (end_at w.ends at).end in
        let m = turn (call.End e.wire) e (seat_at at w) in
        let k = end_reads l heard raw at (λ ls i. Unit {0}) (seat_at at w).reader None Steady
        lines w h below (λ r. tt) in
        record {
          ends = λ none. works_as l heard raw at (Done (λ ls i. Unit {0})) Steady
              (lines ++ m.lines) (with_seat at w m.state) (k.ends none) (λ d. d.0);
          all = k.all;
        }

    one_less : (lines : List Line) (w : WorldState) (m : Outcome Seat)
        → One l raw at (With l heard raw at NoBytes (Quiet (λ ls i. Unit {0}))) lines w m
        → One l raw at (With l heard raw at NoBytes Steady) lines w m
    one_less lines w m k = grind (arith, works_as)

    -- and then an EOF, where nothing is in flight before it
    eof_stands : (lines : List Line) (w : WorldState)
        → With l heard raw at NoBytes (Quiet NoBytes) lines w → IsEnd at w
        → One l raw at (With l heard raw at NoBytes Steady) lines w
        (receive_eof (end_at w.ends at).end (seat_at at w))
    unfolding receive_eof name_of_event
    eof_stands lines w h below =
        let e = (end_at w.ends at).end in
        let s = seat_at at w in
        let recv = Over e.link (moves.Recv None) in
        let q = is_queued (link_of e s).down.eof in
        let there = end_place w.links h.links.unique (read_on e.link lines) e (client_at w at)
        (old_part l heard raw at (Quiet NoBytes) lines w h below) in
        let r = step_reads w.links e.link e.place None there in
        let u = with_seat at w (links_do recv s).state in
        let more = lines ++ (links_do recv s).lines in
        one_then l raw at (With l heard raw at NoBytes Steady) (With l heard raw at NoBytes Steady)
        lines w below (links_do recv s)
        (λ e t. cond q (turn (call.End e.wire) e t) (stays t))
        (one_heard l (λ i. heard i ++ heard_at w.links i recv) heard raw at
        (Seating at [] Steady) lines w (links_do recv s)
        (unheard heard (place_of e.link w.links))
        (seat_linked l heard raw at [] (Quiet NoBytes) Steady lines w h below recv refl refl
        (λ ok k going. subst (λ x. ReadsOn x (end_at w.ends at) (client_at w at))
        (sym (ap (λ x. read_on e.link lines ++ x) (r.reads ok ∙ k.1 going)
        ∙ append-nil (read_on e.link lines))) (k.0 going))))
        (λ none h' below'. let e = (end_at u.ends at).end in
        elim q as (λ b. One l raw at (With l heard raw at NoBytes Steady) more u
        (cond b (turn (call.End e.wire) e (seat_at at u)) (stays (seat_at at u)))) [
          | true ↦ ended_stands more u h' below'
          | false ↦ one_stays l heard raw at Steady more u h' below' Steady (λ k. k)
        ])

    read_stands : (count : Option ℕ) (lines : List Line) (w : WorldState)
        → With l heard raw at NoBytes Steady lines w → IsEnd at w
        → One l raw at (With l heard raw at NoBytes Steady) lines w
        (read count (end_at w.ends at).end (seat_at at w))
    read_stands None lines w h below =
        let e = (end_at w.ends at).end in
        let s = seat_at at w in
        let bytes = (link_of e s).down.bytes in
        let n = length bytes in
        let there = end_place w.links h.links.unique (read_on e.link lines) e (client_at w at)
        (old_part l heard raw at Steady lines w h below) in
        let r = step_reads w.links e.link e.place (Some n) there in
        elim (has_ended e.wire s) as (λ b. One l raw at (With l heard raw at NoBytes Steady) lines w
        (cond b (stays s) (and_then (receive_bytes n e s) (receive_eof e)))) [
          | true ↦ one_stays l heard raw at Steady lines w h below Steady (λ k. k)
          | false ↦
              one_then l raw at (With l heard raw at NoBytes (Quiet NoBytes))
              (With l heard raw at NoBytes Steady) lines w below (receive_bytes n e s) receive_eof
              (bytes_stand NoBytes n lines w h below
              (λ ok. r.leaves n refl ok ∙ drop_all n bytes (omega arith)))
              (λ none h' below'. eof_stands (lines ++ (receive_bytes n e s).lines)
              (with_seat at w (receive_bytes n e s).state) h' below')
        ]
    read_stands (Some n) lines w h below =
        let e = (end_at w.ends at).end in
        let s = seat_at at w in
        elim (not (has_ended e.wire s) && nat_le n (length (link_of e s).down.bytes)) as (λ b.
        One l raw at (With l heard raw at NoBytes Steady) lines w
        (cond b (receive_bytes n e s) (refuses s NothingThere))) [
          | true ↦ one_less lines w (receive_bytes n e s)
              (bytes_stand (λ ls i. Unit {0}) n lines w h below (λ ok. tt))
          | false ↦ one_refuses l heard raw at Steady lines w h below
              (With l heard raw at NoBytes Steady) NothingThere
        ]

    -- the client may end the link that its commands go on
    hang_main_stands : (u : Wire) (before : Bool) (lines : List Line) (w : WorldState)
        → With l heard raw at NoBytes Steady lines w → IsEnd at w
        → One l raw at (With l heard raw at NoBytes Steady) lines w
        (hang_up_main u before (seat_at at w))
    unfolding IsUnread
    hang_main_stands Main before lines w h below =
        one_stays l heard raw at Steady lines w h below Steady (λ k. k)
    hang_main_stands Side before lines w h below =
        let s = seat_at at w in
        let main = link_on Main s.member.name in
        let hang = Over main moves.HangUp in
        elim (not before && has_ended Main s) as (λ b.
        One l raw at (With l heard raw at NoBytes Steady) lines w
        (cond b (links_do hang s) (stays s))) [
          | true ↦
              one_heard l (λ i. heard i ++ heard_at w.links i hang) heard raw at
              (Seating at [] Steady) lines w (links_do hang s)
              (unheard heard (place_of main w.links))
              (unread_steps heard lines w h below hang tt (λ n. refl))
          | false ↦ one_stays l heard raw at Steady lines w h below Steady (λ k. k)
        ]

    pub receive_stands : (count : Option ℕ) (lines : List Line) (w : WorldState)
        → With l heard raw at NoBytes Steady lines w → IsEnd at w
        → One l raw at (With l heard raw at NoBytes Steady) lines w
        (receive count (end_at w.ends at).end (seat_at at w))
    unfolding receive
    receive_stands count lines w h below =
        let s = seat_at at w in
        let m = read count (end_at w.ends at).end s in
        let before = has_ended Main s in
        let u = with_seat at w m.state in
        one_then l raw at (With l heard raw at NoBytes Steady) (With l heard raw at NoBytes Steady)
        lines w below m (λ e. hang_up_main e.wire before) (read_stands count lines w h below)
        (λ none h' below'. hang_main_stands (end_at u.ends at).end.wire before (lines ++ m.lines) u
        h' below')

  -- ---- all of it

  pub flow_stands : (heard : ℕ → List ℕ) (lines : List Line) (w : WorldState)
      → With l heard raw at NoBytes Steady lines w → IsEnd at w
      → let s = seat_at at w in
      let e = (end_at w.ends at).end in
      One l raw at (With l
      (λ i. heard i ++ heard_at (out None e s).state.links i (Over e.link (moves.Serve None)))
      raw at NoBytes Steady) lines w (flow e s)
  unfolding flow name_of_event IsUnread
  flow_stands heard lines w h below =
      let s = seat_at at w in
      let e = (end_at w.ends at).end in
      let m = out None e s in
      let u = with_seat at w m.state in
      let more = lines ++ m.lines in
      let heard' : ℕ → List ℕ = λ i. heard i
      ++ heard_at m.state.links i (Over e.link (moves.Serve None)) in
      let F = With l heard' raw at NoBytes Steady in
      one_then l raw at (With l heard raw at NoBytes Steady) F lines w below m
      (λ e s. and_then (links_do (Over e.link (moves.Serve None)) s)
      (λ s. and_then (links_do (Over e.link (moves.Send None)) s) (receive None e)))
      (out_stands heard None lines w h below)
      (λ none h1 below1.
      let e1 = (end_at u.ends at).end in
      let serve = Over e1.link (moves.Serve None) in
      let m1 = links_do serve (seat_at at u) in
      let u1 = with_seat at u m1.state in
      one_then l raw at F F more u below1 m1
      (λ e s. and_then (links_do (Over e.link (moves.Send None)) s) (receive None e))
      (one_heard l (λ i. heard i ++ heard_at u.links i serve) heard' raw at (Seating at [] Steady)
      more u m1
      (λ i. ap (λ (x : EndState). heard i
      ++ heard_at u.links i (Over x.end.link (moves.Serve None)))
      (end_back at w below m.state))
      (unread_steps heard more u h1 below1 serve tt (λ n. refl)))
      (λ none2 h2 below2.
      let e2 = (end_at u1.ends at).end in
      let send = Over e2.link (moves.Send None) in
      let m2 = links_do send (seat_at at u1) in
      one_then l raw at F F (more ++ m1.lines) u1 below2 m2 (receive None)
      (one_heard l (λ i. heard' i ++ heard_at u1.links i send) heard' raw at
      (Seating at [] Steady) (more ++ m1.lines) u1 m2
      (unheard heard' (place_of e2.link u1.links))
      (unread_steps heard' (more ++ m1.lines) u1 h2 below2 send tt (λ n. refl)))
      (λ none3 h3 below3. receive_stands heard' None ((more ++ m1.lines) ++ m2.lines)
      (with_seat at u1 m2.state) h3 below3)))

  -- ---- what a client is asked

  module _ (heard : ℕ → List ℕ) (lines : List Line) (w : WorldState)
      (h : With l heard raw at NoBytes Steady lines w) (below : IsEnd at w) where
    -- a call that reads and takes nothing on any link
    asked_stands : (c : ClientCall) → IsCall (client_at w at).state.setup.mode c → AsksQuery c
        → ((u : Wire) → IsHere u c) → ((u : Wire) → IsApart u c)
        → One l raw at (With l heard raw at NoBytes Steady) lines w
        (turn c (end_at w.ends at).end (seat_at at w))
    asked_stands c is_call asks here apart =
        let m = client_at w at in
        let e = (end_at w.ends at).end in
        let p = old_part l heard raw at Steady lines w h below in
        let k = turn_keeps m.state.setup e.wire m.state.past c p.member.legal is_call asks
        (apart e.wire) in
        one_turn l heard raw at Steady lines w h below c is_call asks (here e.wire) []
        (k.taken_is ∙ sym (append-nil _))
        (λ got r. subst (λ x. IsPrefix (map tree_of x) (values_of (read_on e.link lines)))
        (sym k.gots_are) got)
        Steady
        (λ none r going.
        let q = r (k.going going) in
        record { gots_are = ap (map tree_of) k.gots_are ∙ q.gots_are; reading = q.reading })

    pub ask_stands : (q : List (List ℕ)) → AsksQuery (call.Ask q)
        → One l raw at (With l heard raw at NoBytes Steady) lines w
        (turn (call.Ask q) (end_at w.ends at).end (seat_at at w))
    ask_stands q asks = asked_stands (call.Ask q) tt asks (λ u. tt) (λ u. tt)

    pub send_stands : (ws : List (List ℕ)) → 0 < length ws
        → One l raw at (With l heard raw at NoBytes Steady) lines w
        (turn (call.Send ws) (end_at w.ends at).end (seat_at at w))
    send_stands ws some = asked_stands (call.Send ws) some tt (λ u. tt) (λ u. tt)

    pub poll_stands : (n : ℕ) → One l raw at (With l heard raw at NoBytes Steady) lines w
        (turn (call.Poll n) (end_at w.ends at).end (seat_at at w))
    poll_stands n = asked_stands (call.Poll n) tt tt (λ u. tt) (λ u. tt)

  -- ---- what is held

  AllPlain : List Line → Type 0
  AllPlain ls = Every (λ l. Plain (l ∷ [])) ls

  plain_append : (xs ys : List Line) → AllPlain xs → AllPlain ys → AllPlain (xs ++ ys)
  unfolding AllPlain
  plain_append [] ys a b = b
  plain_append (x ∷ xs) ys a b = (a.0, plain_append xs ys a.1 b)

  listed_plain : (s : Seat) (o : Option CacheEntry) → AllPlain (listed_line s o)
  unfolding AllPlain Mute
  listed_plain s o = grind arith

  held_plain : (n : ℕ) (s : Seat) → AllPlain (held_lines n s)
  unfolding AllPlain
  held_plain zero s = tt
  held_plain (suc n) s = grind (arith, plain_append, listed_plain, held_plain n s)

  shown_plain : (s : Seat) → AllPlain (shown s)
  unfolding AllPlain Mute
  shown_plain s = grind (arith, plain_append, held_plain)

  print_stands : (heard : ℕ → List ℕ) (ls : List Line) → AllPlain ls → (lines : List Line)
      (w : WorldState) → With l heard raw at NoBytes Steady lines w → IsEnd at w
      → One l raw at (With l heard raw at NoBytes Steady) lines w (print ls (seat_at at w))
  unfolding print AllPlain
  print_stands heard [] plain lines w h below =
      one_stays l heard raw at Steady lines w h below Steady (λ r. r)
  print_stands heard (x ∷ ls) plain lines w h below =
      let s = seat_at at w in
      one_then l raw at (With l heard raw at NoBytes Steady) (With l heard raw at NoBytes Steady)
      lines w below (does s s (x ∷ [])) (λ e. print ls)
      (one_prints l heard raw at Steady lines w h below (x ∷ []) plain.0)
      (λ none h' below'. print_stands heard ls plain.1 (lines ++ x ∷ []) (with_seat at w s) h'
      below')

  pub show_stands : (heard : ℕ → List ℕ) (lines : List Line) (w : WorldState)
      → With l heard raw at NoBytes Steady lines w → IsEnd at w
      → One l raw at (With l heard raw at NoBytes Steady) lines w (show (seat_at at w))
  unfolding show
  show_stands heard lines w h below =
      print_stands heard (shown (seat_at at w)) (shown_plain (seat_at at w)) lines w h below
