-- A link that flows has nothing in flight then, and nothing left to send.
use Rattle.std.proofs.Common.{◌≡◌, ◌<◌, ◌≤◌, ℕ, List, [], ◌∷◌, Bool, true, false, cond, Some, None}
use Rattle.std.proofs.Common.{Option, length, take, drop, refl, sym, ap, subst, ◌∙◌, arith}
use Rattle.std.proofs.Common.{eq-eqb, zero, suc}
use Rattle.std.specs.Prelude.{◌==◌, ◌&&◌}
use Rattle.std.specs.Prelude.{position, slice_set}
use Rattle.std.specs.Str.{bytes_eq}
use Rattle.std.proofs.lemmas.Bool.{and_from, both_ways}
use Rattle.std.proofs.lemmas.List.{drop_all, get_or-set_same}
use Rattle.resp_stream.specs.declared.fault.FaultPlace.{FaultPlace}
use Rattle.resp_stream.specs.Parse.{parse}
use Rattle.serial_model.specs.declared.history.Limits.{Limits}
use Rattle.serial_model.specs.declared.history.Entry.{Entry}
use Rattle.serial_model.specs.declared.history.BookCall.TheVariants as call
use Rattle.serial_model.specs.History.{has_ended, reads_on, gives_on, is_admitted, stream, unsent}
use Rattle.serial_model.specs.Steps.{Turn, book_step, taking}
use Rattle.serial_model.proofs.Streams.{stream_take, unsent_taken}
use Rattle.server_links.specs.declared.link.Link.{Link}
use Rattle.server_links.specs.declared.link.LinkMove.TheVariants as moves
use Rattle.server_links.specs.declared.direction.Eof.{Eof}
use Rattle.server_links.specs.Directions.{eof_read, finished, is_open, is_queued, past_eof, queued}
use Rattle.server_links.specs.Directions.{without_bytes}
use Rattle.server_links.specs.LinkEvent.{LinkEvent, Over}
use Rattle.server_links.specs.Moves.{turned, turn, next_read, run_one, run_all, close, stop}
use Rattle.server_links.specs.Moves.{stop_open, rest_read, run_requests, run_fed, stopped_at, feed}
use Rattle.server_links.specs.Moves.{serve_all}
use Rattle.server_links.specs.Moves.{take_down, all_bytes, send_all, receive_all, flow, read_bytes}
use Rattle.server_links.specs.Moves.{read_eof, move_of, end_down}
use Rattle.server_links.specs.OneHistory.{FlowDelivers}
use Rattle.server_links.specs.Outcome.{Outcome, and_then, does, stays, within}
use Rattle.server_links.specs.Session.{Session, session_at, with_down, with_link, with_session}
use Rattle.server_links.proofs.Carries.{Carries}
use Rattle.server_links.proofs.Endings.{unsent_le, unsent_none}
use Rattle.server_links.proofs.Events.{step_is}
use Rattle.server_links.proofs.Moving.{every_serve_all, every_move}
use Rattle.server_links.proofs.Names.{AreUnique, place_is, placed}
use Rattle.server_links.proofs.NameLists.{names_set, place_by}
use Rattle.server_links.proofs.AccountRuns.{both}
use Rattle.server_links.specs.LinkSteps.{Stepped, link_named, over, over_named, place_of, step}
use Rattle.server_links.specs.LinksState.{LinksState, at_place, fresh_link, names}

-- where it ends without a fault
unfoldable pub Ends : {S : Type 0} → (S → Type 0) → Outcome S → Type 0
Ends Q m = m.fault ≡ None → Q m.state

pub ends_then : {S : Type 0} → (P Q : S → Type 0) (m : Outcome S) (next : S → Outcome S)
    → Ends P m → ((t : S) → P t → Ends Q (next t)) → Ends Q (and_then m next)
unfolding and_then Ends
ends_then P Q m next h g = grind arith

-- nothing is in flight to the server, and the way back is open
unfoldable pub Heard : Session → Type 0
Heard s = (s.link.up.bytes ≡ []) × (is_open s.link.down.eof ≡ true)

heard_run_all : (requests : List (List (List ℕ))) (s : Session) → Heard s
    → Ends Heard (run_all requests s)
unfolding run_all run_one turn Ends Heard
heard_run_all [] s h = λ e. h
heard_run_all (words ∷ requests) s h =
    ends_then Heard Heard (run_one words s) (run_all requests)
    (ends_then Heard Heard (does s (next_read s) [])
    (λ t. turn (call.Run t.link.id words t.now) words t) (λ e. h) (λ t k e. k))
    (heard_run_all requests)

heard_stop_open : (place : Option FaultPlace) (eof : Bool) (s : Session) → Heard s
    → Ends Heard (stop_open place eof s)
unfolding close turn Ends Heard
heard_stop_open (Some place) eof s h = ends_then Heard Heard _ close (λ e. h) (λ t k e. k)
heard_stop_open None true s h = λ e. h
heard_stop_open None false s h = λ e. h

heard_stop : (place : Option FaultPlace) (eof : Bool) (s : Session) → Heard s
    → Ends Heard (stop place eof s)
unfolding Ends
heard_stop place eof s h =
    elim (reads_on s.limits s.past s.link.id) as (λ b.
    (cond b (stop_open place eof s) (stays s)).fault ≡ None
    → Heard (cond b (stop_open place eof s) (stays s)).state) [
      | true ↦ heard_stop_open place eof s h
      | false ↦ λ e. h
    ]

heard_run_fed : (eof : Bool) (s : Session) → Heard s → Ends Heard (run_fed eof s)
unfolding run_fed run_requests Ends Heard
heard_run_fed eof s h =
    let p = parse s.link.reader in
    ends_then Heard Heard (run_requests s) (stop (stopped_at p.fault) eof)
    (ends_then Heard Heard (run_all p.items s) (rest_read p.stream) (heard_run_all p.items s h)
    (λ t k e. k))
    (heard_stop (stopped_at p.fault) eof)

heard_serve : (s : Session) → reads_on s.limits s.past s.link.id ≡ true
    → is_open s.link.down.eof ≡ true → Ends Heard (serve_all s)
unfolding serve_all Ends Heard
heard_serve s on opened =
    let fed : Outcome Session =
    and_then (feed s.link.up.bytes (past_eof (without_bytes s.link.up)) s)
    (run_fed (is_queued s.link.up.eof)) in
    subst (λ b. (cond b fed (stays s)).fault ≡ None → Heard (cond b fed (stays s)).state) (sym on)
    (ends_then Heard Heard (feed s.link.up.bytes (past_eof (without_bytes s.link.up)) s)
    (run_fed (is_queued s.link.up.eof)) (λ e. (refl, opened))
    (heard_run_fed (is_queued s.link.up.eof)))

-- all that was sent can be asked for by one Take
abbrev pub IsFew : Session → Type 0
IsFew s = length (stream s.limits s.link.id s.past) ≤ all_bytes

-- nothing is left to send then
unfoldable Taken : Session → Type 0
Taken s = (s.link.up.bytes ≡ []) × (IsFew s → unsent s.limits s.link.id s.past ≡ [])

-- and the EOF was sent too, where the connection has ended
unfoldable pub Given : Session → Type 0
Given s = (s.link.up.bytes ≡ []) × (IsFew s → unsent s.limits s.link.id s.past ≡ [])
    × (IsFew s → has_ended s.limits s.link.id s.past ≡ true → is_open s.link.down.eof ≡ false)

pub no_bytes : (bytes : List ℕ) → length bytes ≡ 0 → bytes ≡ []
no_bytes [] e = refl
no_bytes (b ∷ bytes) e = absurd (let no : ⊥ = omega (arith, e) in no)

not_open : (e : Eof) → is_open (queued e) ≡ false
not_open e = grind arith

took_all : (unsent stream : List ℕ) (most : ℕ) → length unsent ≤ length stream
    → length stream ≤ most → drop most unsent ≡ []
took_all unsent stream most le few = grind (arith, drop_all)

none_taken : (bytes : List ℕ) (most : ℕ) → 0 < most → take most bytes ≡ [] → bytes ≡ []
none_taken [] most more is = refl
none_taken (b ∷ bytes) zero more is = absurd (let no : ⊥ = omega (arith, more) in no)
none_taken (b ∷ bytes) (suc most) more is = absurd (let no : ⊥ = cc in no)

taking_given : (l : Limits) (past : List Entry) (id most : ℕ) (bytes : List ℕ) → 0 < most
    → take most (unsent l id past) ≡ bytes →
    let t : Turn = taking past id most bytes in
    length (stream l id t.past) ≤ most → unsent l id t.past ≡ []
taking_given l past id most [] more is few = none_taken (unsent l id past) most more is
taking_given l past id most (b ∷ bytes) more is few =
    unsent_taken l past id id most (eq-eqb id id refl)
    ∙ took_all (unsent l id past) (stream l id past) most (unsent_le l past id)
    (subst (λ x. length x ≤ most) (stream_take l past id id most) few)

some_bytes : 0 < all_bytes
some_bytes = omega arith

given_take : (s : Session) → s.link.up.bytes ≡ [] → gives_on s.limits s.past s.link.id ≡ true
    → Ends Taken (take_down all_bytes s)
unfolding take_down book_step Ends Taken
given_take s none on =
    let l = s.limits in
    let id = s.link.id in
    let t = book_step l s.past (call.Take id all_bytes) in
    let is : t ≡ taking s.past id all_bytes (take all_bytes (unsent l id s.past)) = grind arith in
    ends_then Taken Taken (turned s [] t) _
    (λ e. (
      none,
      subst (λ (t : Turn). length (stream l id t.past) ≤ all_bytes → unsent l id t.past ≡ [])
          (sym is)
          (taking_given l s.past id all_bytes (take all_bytes (unsent l id s.past)) some_bytes
          refl),
    ))
    (λ u g e. g)

-- the EOF follows
given_end : (s : Session) → Taken s → Ends Given (end_down s)
unfolding Ends Given Taken
given_end s g e =
    let ended = has_ended s.limits s.link.id s.past in
    let none = length (unsent s.limits s.link.id s.past) == 0 in
    elim (ended && none) as (λ b. (ended && none) ≡ b
    → Given (cond b (with_link s (with_down s.link (finished s.link.down))) s)) [
      | true ↦ λ is. (g.0, g.1, λ few h. not_open s.link.down.eof)
      | false ↦ λ is. (
        g.0,
        g.1,
        λ few h. absurd (both_ways _ is (and_from _ _ h (ap (λ x. length x == 0) (g.1 few)))),
      )
    ] refl

given_finished : (s : Session) → s.link.up.bytes ≡ [] → is_admitted s.past s.link.id ≡ true
    → gives_on s.limits s.past s.link.id ≡ false
    → Given (with_link s (with_down s.link (finished s.link.down)))
unfolding Given
given_finished s none there off = (
  none,
  λ few. unsent_none s.limits s.past s.link.id there off,
  λ few h. not_open s.link.down.eof,
)

given_send : (s : Session) → Heard s → is_admitted s.past s.link.id ≡ true → Ends Given (send_all s)
unfolding Heard Ends
given_send s h on =
    let ended = with_link s (with_down s.link (finished s.link.down)) in
    let sent = and_then (take_down all_bytes s) end_down in
    let on_is = gives_on s.limits s.past s.link.id in
    subst (λ o. let m = cond o (cond on_is sent (stays ended)) (stays s) in
    m.fault ≡ None → Given m.state) (sym h.1)
    (elim on_is as (λ b. on_is ≡ b → let m = cond b sent (stays ended) in
    m.fault ≡ None → Given m.state) [
      | true ↦ λ is. ends_then Taken Given (take_down all_bytes s) end_down
          (given_take s h.0 is) given_end
      | false ↦ λ is e. given_finished s h.0 on is
    ] refl)

unfoldable pub Delivered : Session → Type 0
Delivered s = Given s × (s.link.down.bytes ≡ [])

still_shut : (e : Eof) → is_open e ≡ false → is_open (eof_read e) ≡ false
still_shut e h = grind arith

pub delivered_read : (s : Session) → Given s → Ends Delivered (receive_all s)
unfolding receive_all Ends Given Delivered
delivered_read s g =
    ends_then Delivered Delivered (read_bytes s.link.down.bytes (without_bytes s.link.down) s)
    read_eof (λ e. (g, refl))
    (λ t d e. ((d.0.0, d.0.1, λ few h. still_shut t.link.down.eof (d.0.2 few h)), d.1))

still_admitted : (s : Session) → reads_on s.limits s.past s.link.id ≡ true
    → (serve_all s).fault ≡ None → is_admitted (serve_all s).state.past (serve_all s).state.link.id
    ≡ true
still_admitted s on e =
    let c = (every_serve_all s).carries.ends e in
    grind (arith, both)

-- the server reads on, and the way back is open
unfoldable pub Flows : Session → Type 0
Flows s = (reads_on s.limits s.past s.link.id ≡ true) × (is_open s.link.down.eof ≡ true)

unfoldable pub Served : Session → Type 0
Served s = Heard s × (is_admitted s.past s.link.id ≡ true)

pub flow_serves : (s : Session) → Flows s → Ends Served (serve_all s)
unfolding Ends Served Flows
flow_serves s f = λ e. (heard_serve s f.0 f.1 e, still_admitted s f.0 e)

pub flow_sends : (s : Session) → Served s → Ends Given (send_all s)
unfolding Served
flow_sends s h = given_send s h.0 h.1

flow_delivered : (s : Session) → Flows s → Ends Delivered (flow s)
unfolding flow
flow_delivered s f =
    ends_then Served Delivered (serve_all s) _ (flow_serves s f)
    (λ u h. ends_then Given Delivered (send_all u) receive_all (flow_sends u h) delivered_read)

-- ---- an event over a link, as its move

module _ (w : LinksState) (at : ℕ) (event : LinkEvent) (name : List ℕ)
    (own : link_named event ≡ Some name) (found : place_of name w ≡ Some at) where
  abbrev m : Outcome Session
  m = move_of event (session_at at w)

  pub event_is : step w event ≡ over at (move_of event) w
  event_is = step_is w name event own ∙ ap (λ p. over_named p (move_of event) w) found

  pub fault_is : (step w event).fault ≡ m.fault
  unfolding over within
  fault_is = ap (λ (o : Stepped). o.fault) event_is

  state_is : (step w event).state ≡ with_session at w m.state
  unfolding over within
  state_is = ap (λ (o : Stepped). o.state) event_is

  carried : m.fault ≡ None → Carries (session_at at w) m.state m.lines
  carried none = (every_move event (session_at at w)).carries.ends none

  -- the link is as the move left it
  pub session_is : (step w event).fault ≡ None → session_at at (step w event).state ≡ m.state
  session_is none =
      let c = carried (sym fault_is ∙ none) in
      let there : at_place (slice_set w.links at m.state.link) at ≡ m.state.link =
      get_or-set_same w.links at m.state.link (fresh_link 0 []) (placed name w at found).0 in
      let named = names_set w.links at m.state.link c.named ∙ sym c.names in
      let then : (l : Limits) (n : ℕ) (ns : List (List ℕ)) (x : Link) → Session =
      λ l n ns x. record { limits = l; now = n; past = m.state.past; names = ns; link = x } in
      ap (session_at at) state_is
      ∙ ap (λ x. then w.limits w.now (names (slice_set w.links at m.state.link)) x) there
      ∙ ap (λ ns. then w.limits w.now ns m.state.link) named
      ∙ ap (λ l. then l w.now m.state.names m.state.link) (sym c.limits)
      ∙ ap (λ n. then m.state.limits n m.state.names m.state.link) (sym c.now)

  -- and is found as before
  pub still_found : (step w event).fault ≡ None → place_of name (step w event).state ≡ Some at
  still_found none =
      let c = carried (sym fault_is ∙ none) in
      let same : names (step w event).state.links ≡ names w.links =
      ap (λ (v : LinksState). names v.links) state_is ∙ names_set w.links at m.state.link c.named in
      sym (place_by name (step w event).state) ∙ ap (position (λ n. bytes_eq n name)) same
      ∙ place_by name w ∙ found

pub flow_delivers : (w : LinksState) (at : ℕ) → AreUnique w → at < length w.links
    → FlowDelivers w at
unfolding Ends Delivered Given Flows
flow_delivers w at unique below on up_open down_open none =
    let name = (at_place w.links at).name in
    let event = Over name moves.Flow in
    let found = place_is w unique name at below refl in
    let v = (step w event).state in
    let d : Delivered (session_at at v) =
    subst Delivered (sym (session_is w at event name refl found none))
    (flow_delivered (session_at at w) (on, down_open)
    (sym (fault_is w at event name refl found) ∙ none)) in
    record { up = d.0.0; down = d.1; sent = d.0.1; ended = d.0.2 }
