-- A link that flows delivers all that was there: that of a client, and one that has none.
use Rattle.std.proofs.Common.{◌≡◌, ◌<◌, ◌≤◌, ℕ, List, [], ◌∷◌, Bool, true, false, cond, Option}
use Rattle.std.proofs.Common.{Some, None, length, not, take, drop, refl, sym, ap, subst, ◌∙◌}
use Rattle.std.proofs.Common.{arith}
use Rattle.std.specs.Prelude.{◌&&◌, nat_le, position}
use Rattle.std.specs.Str.{bytes_eq}
use Rattle.std.proofs.lemmas.List.{drop_all, get_or-set_other, get_or-set_same}
use Rattle.resp_value.specs.Tree.{Tree}
use Rattle.resp_value.specs.ValueTree.{value_of}
use Rattle.resp_value.specs.declared.value.Value.{Value}
use Rattle.resp_stream.specs.declared.fault.FaultPlace.{FaultPlace}
use Rattle.resp_stream.specs.Parse.{parse_values}
use Rattle.serial_model.specs.declared.history.Limits.{Limits}
use Rattle.shared_cache.specs.declared.log.ClientCall.{ClientCall}
use Rattle.shared_cache.specs.declared.log.ClientCall.TheVariants as call
use Rattle.shared_cache.specs.declared.log.ClientRefusal.{ClientRefusal}
use Rattle.shared_cache.specs.declared.log.ClientRefusal.TheVariants as refusal
use Rattle.shared_cache.specs.declared.log.LogEntry.{LogEntry}
use Rattle.shared_cache.specs.declared.log.LogEntry.TheVariants as entry
use Rattle.shared_cache.specs.declared.log.Wire.{Wire}
use Rattle.shared_cache.specs.declared.log.Wire.TheVariants.{Main, Side}
use Rattle.shared_cache.specs.Held.{Setup}
use Rattle.shared_cache.specs.Log.{is_ended}
use Rattle.shared_cache.specs.Out.{untaken}
use Rattle.shared_cache.specs.Steps.{ClientTurn, client_step, getting, is_log_full, taking_out}
use Rattle.shared_cache.specs.Steps as steps
use Rattle.shared_cache.proofs.Bytes.{side_untaken_same, untaken_same, untaken_took}
use Rattle.script_text.specs.declared.line.Line.{Line}
use Rattle.server_links.specs.declared.fault.WorldFault.TheVariants.{NothingThere}
use Rattle.server_links.specs.declared.link.LinkMove.TheVariants as moves
use Rattle.server_links.specs.Directions.{is_open, is_queued, without}
use Rattle.server_links.specs.LinkEvent.{LinkEvent, Put, Over}
use Rattle.server_links.specs.LinksState.{LinksState, at_place, fresh_link, names}
use Rattle.server_links.specs.LinkSteps.{link_named, over, over_named, place_of}
use Rattle.server_links.specs.LinkSteps as links
use Rattle.server_links.specs.Moves as links_moves
use Rattle.server_links.specs.Moves.{all_bytes, move_of, read_bytes, stopped_at}
use Rattle.server_links.specs.OneHistory.{IsDelivered}
use Rattle.server_links.specs.Outcome.{Outcome, and_then, does, refuses, stays, within}
use Rattle.server_links.specs.Session.{Session, session_at, with_session}
use Rattle.server_links.proofs.Delivery.{Delivered, Ends, Flows, Given, Served, delivered_read}
use Rattle.server_links.proofs.Delivery.{ends_then, event_is, fault_is, flow_sends, flow_serves}
use Rattle.server_links.proofs.Delivery.{session_is, still_found}
use Rattle.server_links.proofs.Delivery as links_delivery
use Rattle.server_links.proofs.NameLists.{names_set, place_by}
use Rattle.server_links.proofs.Names.{place_is, placed}
use Rattle.world_run.specs.WorldState.{EndState, LinkEnd, MemberState, WorldState, client_at}
use Rattle.world_run.specs.WorldState.{end_at, end_of_link, fresh_end, fresh_member, link_on}
use Rattle.world_run.specs.WorldState.{member_at, no_setup}
use Rattle.world_run.specs.Members.{Seat, link_of, links_do, log_of, seat_at, setup_of}
use Rattle.world_run.specs.Members.{with_reader, with_seat}
use Rattle.world_run.specs.ClientMoves.{bytes_of, fault_of, feed, flow, got, got_all, got_one}
use Rattle.world_run.specs.ClientMoves.{hang_up, hang_up_main, has_ended, next_read, out, read}
use Rattle.world_run.specs.ClientMoves.{read_values, receive, receive_bytes, receive_eof, rest_read}
use Rattle.world_run.specs.ClientMoves.{stop, take_out, turn}
use Rattle.world_run.specs.World.{client_does, flow_step, links_step, step}
use Rattle.world_run.specs.WorldFlows.{FlowDelivers, IsEmptied, HasNotEnded}
use Rattle.world_run.proofs.Kept.{two_links}
use Rattle.world_run.proofs.Names.{end_there}
use Rattle.world_run.proofs.Worlds.{WorldStands}

-- ---- a client's turns, and what it has for a link

taken_all : (s : Setup) (u : Wire) (log : List LogEntry) (most : ℕ) (bytes : List ℕ) (full : Bool)
    → untaken s u log ≡ bytes → length bytes ≤ most →
    let t : ClientTurn = taking_out u most bytes full log in
    fault_of t.reply ≡ None → untaken s u t.past ≡ []
taken_all s u log most [] full is le none = is
taken_all s u log most (b ∷ bytes) true is le none = absurd (let no : ⊥ = cc in no)
taken_all s u log most (b ∷ bytes) false is le none =
    untaken_took s log u most ∙ ap (λ x. drop most x) is ∙ drop_all most (b ∷ bytes) le

takes_all : (s : Setup) (u : Wire) (log : List LogEntry) (most : ℕ)
    → is_ended s.mode u log ≡ false →
    let t : ClientTurn = client_step s log (call.TakeOut u most) in
    fault_of t.reply ≡ None → length (untaken s u log) ≤ most → untaken s u t.past ≡ []
unfolding client_step
takes_all s u log most on =
    let T : ClientTurn = taking_out u most (untaken s u log) (is_log_full s log) log in
    subst (λ b. let t : ClientTurn = cond b (steps.refusing (refusal.Down u) log) T in
    fault_of t.reply ≡ None → length (untaken s u log) ≤ most → untaken s u t.past ≡ [])
    (sym on)
    (λ none le. taken_all s u log most (untaken s u log) (is_log_full s log) refl le none)

still_going : (s : Setup) (u : Wire) (log : List LogEntry) (most : ℕ)
    → is_ended s.mode u log ≡ false
    → is_ended s.mode u (client_step s log (call.TakeOut u most)).past ≡ false
unfolding client_step
still_going s u log most on = grind arith

bad_same : (s : Setup) (u : Wire) (log : List LogEntry) (v : Value)
    → untaken s u (entry.Bad u v ∷ log) ≡ untaken s u log
bad_same s Main log v = untaken_same s log (entry.Bad Main v ∷ log) refl refl refl
bad_same s Side log v = side_untaken_same s log (entry.Bad Side v ∷ log) refl

value_same : (s : Setup) (u : Wire) (log : List LogEntry) (v : Value)
    → untaken s u (entry.Got u v ∷ log) ≡ untaken s u log
value_same s Main log v = untaken_same s log (entry.Got Main v ∷ log) refl refl refl
value_same s Side log v = side_untaken_same s log (entry.Got Side v ∷ log) refl

end_same : (s : Setup) (u : Wire) (log : List LogEntry)
    → untaken s u (entry.End u ∷ log) ≡ untaken s u log
end_same s Main log = untaken_same s log (entry.End Main ∷ log) refl refl refl
end_same s Side log = side_untaken_same s log (entry.End Side ∷ log) refl

got_same : (s : Setup) (u : Wire) (log : List LogEntry) (v : Value) (r : Option ClientRefusal)
    (full : Bool)
    → untaken s u (getting r u v full log).past ≡ untaken s u log
got_same s u log v (Some r) full = bad_same s u log v
got_same s u log v None true = refl
got_same s u log v None false = value_same s u log v

gets_none : (s : Setup) (u : Wire) (log : List LogEntry) (v : Value)
    → untaken s u (client_step s log (call.Got u v)).past ≡ untaken s u log
unfolding client_step
gets_none s u log v =
    let G : ClientTurn = getting (steps.fault_of s log u v) u v (is_log_full s log) log in
    elim (is_ended s.mode u log) as (λ b.
    untaken s u (cond {A = ClientTurn} b (steps.refusing (refusal.Down u) log) G).past
    ≡ untaken s u log) [
      | true ↦ refl
      | false ↦ got_same s u log v (steps.fault_of s log u v) (is_log_full s log)
    ]

ends_none : (s : Setup) (u : Wire) (log : List LogEntry)
    → untaken s u (client_step s log (call.End u)).past ≡ untaken s u log
unfolding client_step
ends_none s u log =
    elim (is_ended s.mode u log) as (λ b.
    untaken s u (cond b log (entry.End u ∷ log)) ≡ untaken s u log) [
      | true ↦ refl
      | false ↦ end_same s u log
    ]

-- ---- another link is hung up

module _ (w : LinksState) (at : ℕ) (link name : List ℕ) (found : place_of link w ≡ Some at)
    (apart : link ≡ name → ⊥) where
  abbrev HungUp : LinksState
  HungUp = (links.step w (Over name moves.HangUp)).state

  hung_at : (k : ℕ) → place_of name w ≡ Some k
      → (session_at at HungUp ≡ session_at at w) × (place_of link HungUp ≡ Some at)
  unfolding over within
  hung_at k is =
      let x = (links_moves.hang_up (session_at k w)).state in
      let u = with_session k w x in
      let state : HungUp ≡ u =
      ap (λ (o : Outcome LinksState). o.state) (event_is w k (Over name moves.HangUp) name refl is)
      in
      let same : names u.links ≡ names w.links = names_set w.links k x.link refl in
      let there : at_place u.links at ≡ at_place w.links at =
      get_or-set_other w.links k at x.link (fresh_link 0 [])
      (λ e. apart (sym (placed link w at found).1 ∙ ap (λ n. (at_place w.links n).name) e
      ∙ (placed name w k is).1)) in
      let session : session_at at u ≡ session_at at w = λ i. record {
        limits = w.limits;
        now = w.now;
        past = w.past;
        names = same i;
        link = there i;
      } in (
        ap (session_at at) state ∙ session,
        ap (place_of link) state ∙ sym (place_by link u)
            ∙ ap (position (λ n. bytes_eq n link)) same ∙ place_by link w ∙ found,
      )

  hung_apart : (links.step w (Over name moves.HangUp)).fault ≡ None
      → (session_at at HungUp ≡ session_at at w) × (place_of link HungUp ≡ Some at)
  unfolding links.step
  hung_apart none =
      elim (place_of name w) as (λ p. place_of name w ≡ p
      → (over_named p (move_of (Over name moves.HangUp)) w).fault ≡ None
      → (session_at at HungUp ≡ session_at at w) × (place_of link HungUp ≡ Some at)) [
        | None ↦ λ is q. absurd (let no : ⊥ = cc in no)
        | Some k ↦ λ is q. hung_at k is
      ] refl none

-- ---- a client at its end of a link

-- the link of this place is found by its name, and this holds of it, and that of the client
record Sits (at : ℕ) (e : LinkEnd) (name : List ℕ) (Q : Session → Type 0) (P : MemberState → Type 0)
    (s : Seat) : Type 0 where
  found : place_of e.link s.links ≡ Some at
  named : s.member.name ≡ name
  link : Q (session_at at s.links)
  client : P s.member

-- what the client has for the link
abbrev left : LinkEnd → MemberState → List ℕ
left e m = untaken m.state.setup e.wire m.state.past

-- no fewer than it can take out at once; and all of it went out
Empties : LinkEnd → Type 0 → MemberState → Type 0
Empties e few m = few → left e m ≡ []

module _ (at : ℕ) (e : LinkEnd) (name : List ℕ) (placed_at : e.place ≡ at)
    (linked : e.link ≡ link_on e.wire name) where
  sits_links : (event : LinkEvent) (Q R : Session → Type 0) (P : MemberState → Type 0) (s : Seat)
      → link_named event ≡ Some e.link → ((x : Session) → Q x → Ends R (move_of event x))
      → Sits at e name Q P s → Ends (Sits at e name R P) (links_do event s)
  unfolding Ends links_do within
  sits_links event Q R P s own moved h none = record {
    found = still_found s.links at event e.link own h.found none;
    named = h.named;
    link = subst R (sym (session_is s.links at event e.link own h.found none))
        (moved (session_at at s.links) h.link
        (sym (fault_is s.links at event e.link own h.found) ∙ none));
    client = h.client;
  }

  sits_turn : (c : ClientCall) (Q : Session → Type 0) (P R : MemberState → Type 0) (s : Seat)
      → let t : ClientTurn = client_step (setup_of s) (log_of s) c in
      (fault_of t.reply ≡ None
      → R (record s.member { state = record s.member.state { past = t.past } }))
      → Sits at e name Q P s → Ends (Sits at e name Q R) (turn c e s)
  unfolding Ends turn and_then
  sits_turn c Q P R s r h none =
      record { found = h.found; named = h.named; link = h.link; client = r none }

  sits_reader : (Q : Session → Type 0) (P : MemberState → Type 0) (s t : Seat) (lines : List Line)
      → t.links ≡ s.links → t.member ≡ s.member → Sits at e name Q P s
      → Ends (Sits at e name Q P) (does s t lines)
  unfolding Ends
  sits_reader Q P s t lines links member h none = record {
    found = ap (place_of e.link) links ∙ h.found;
    named = ap (λ (m : MemberState). m.name) member ∙ h.named;
    link = subst (λ ls. Q (session_at at ls)) (sym links) h.link;
    client = subst P (sym member) h.client;
  }

  sits_if : (Q : Session → Type 0) (P : MemberState → Type 0) (b : Bool) (m n : Outcome Seat)
      → Ends (Sits at e name Q P) m → Ends (Sits at e name Q P) n
      → Ends (Sits at e name Q P) (cond b m n)
  sits_if Q P true m n h g = h
  sits_if Q P false m n h g = g

  -- ---- it reads values

  module _ (Q : Session → Type 0) (few : Type 0) where
    abbrev S : Seat → Type 0
    S = Sits at e name Q (Empties e few)

    sits_stays : (s : Seat) → S s → Ends S (stays s)
    unfolding Ends
    sits_stays s h none = h

    sits_got : (v : Value) (s : Seat) → S s → Ends S (got v e s)
    unfolding Empties
    sits_got v s h =
        sits_if Q (Empties e few) (has_ended e.wire s) (stays s) (turn (call.Got e.wire v) e s)
        (sits_stays s h)
        (sits_turn (call.Got e.wire v) Q (Empties e few) (Empties e few) s
        (λ none f. gets_none (setup_of s) e.wire (log_of s) v ∙ h.client f) h)

    sits_end : (s : Seat) → S s → Ends S (turn (call.End e.wire) e s)
    unfolding Empties
    sits_end s h =
        sits_turn (call.End e.wire) Q (Empties e few) (Empties e few) s
        (λ none f. ends_none (setup_of s) e.wire (log_of s) ∙ h.client f) h

    sits_all : (ts : List Tree) (s : Seat) → S s → Ends S (got_all ts e s)
    unfolding got_all got_one
    sits_all [] s h = sits_stays s h
    sits_all (t ∷ ts) s h =
        ends_then S S (got_one t e s) (got_all ts e)
        (ends_then S S (does s (next_read s) []) (got (value_of t) e)
        (sits_reader Q (Empties e few) s (next_read s) [] refl refl h) (sits_got (value_of t)))
        (sits_all ts)

    sits_stop : (place : Option FaultPlace) (s : Seat) → S s → Ends S (stop place e s)
    sits_stop None s h = sits_stays s h
    sits_stop (Some place) s h =
        sits_if Q (Empties e few) (has_ended e.wire s) (stays s) _ (sits_stays s h)
        (ends_then S S _ (turn (call.End e.wire) e)
        (sits_reader Q (Empties e few) s s _ refl refl h) sits_end)

    sits_values : (s : Seat) → S s → Ends S (read_values e s)
    unfolding read_values
    sits_values s h =
        let p = parse_values s.reader in
        ends_then S S (and_then (got_all p.items e s) (rest_read p.stream))
        (stop (stopped_at p.fault) e)
        (ends_then S S (got_all p.items e s) (rest_read p.stream) (sits_all p.items s h)
        (λ t k. sits_reader Q (Empties e few) t (with_reader t p.stream) [] refl refl k))
        (sits_stop (stopped_at p.fault))

    -- the client hangs up its other link
    sits_other : (s : Seat) → e.wire ≡ Side → S s
        → Ends S (links_do (Over (link_on Main s.member.name) moves.HangUp) s)
    unfolding Ends links_do within
    sits_other s side h none =
        let n = s.member.name in
        let other : e.link ≡ link_on Main n → ⊥ =
        λ same. two_links n (ap (λ u. link_on u n) (sym side) ∙ ap (link_on e.wire) h.named
        ∙ sym linked ∙ same) in
        let k = hung_apart s.links at e.link (link_on Main n) h.found other none in
        record {
          found = k.1;
          named = h.named;
          link = subst Q (sym k.0) h.link;
          client = h.client;
        }

    sits_hangs_main : (u : Wire) → e.wire ≡ u → (before : Bool) (s : Seat) → S s
        → Ends S (hang_up_main u before s)
    sits_hangs_main Main is before s h = sits_stays s h
    sits_hangs_main Side is before s h =
        sits_if Q (Empties e few) (not before && has_ended Main s)
        (links_do (Over (link_on Main s.member.name) moves.HangUp) s) (stays s)
        (sits_other s is h) (sits_stays s h)

  -- ---- and what comes down

  recv_all : (n : ℕ) (x : Session) → Given x × (length x.link.down.bytes ≡ n)
      → Ends Delivered (links_moves.receive (Some n) x)
  unfolding Ends Given Delivered
  recv_all n x h =
      let down = x.link.down in
      elim (nat_le n (length down.bytes)) as (λ b.
      let m : Outcome Session =
      cond b (read_bytes (take n down.bytes) (without n down) x) (refuses x NothingThere) in
      m.fault ≡ None → (Given m.state) × (m.state.link.down.bytes ≡ [])) [
        | true ↦ λ none. (h.0, drop_all n down.bytes (omega (arith, h.1)))
        | false ↦ λ none. absurd (let no : ⊥ = cc in no)
      ]

  given_of : (x : Session) → Delivered x → Given x
  unfolding Delivered
  given_of x d = d.0

  hung_up : (x : Session) → Delivered x → Ends Delivered (links_moves.hang_up x)
  unfolding Ends Given Delivered
  hung_up x d none = d

  module _ (few : Type 0) where
    abbrev E : MemberState → Type 0
    E = Empties e few

    abbrev D : Seat → Type 0
    D = Sits at e name Delivered E

    sits_hangs : (s : Seat) → D s → Ends D (hang_up e s)
    sits_hangs s h =
        sits_if Delivered E (has_ended e.wire s) (links_do (Over e.link moves.HangUp) s) (stays s)
        (sits_links (Over e.link moves.HangUp) Delivered Delivered E s refl hung_up h)
        (sits_stays Delivered few s h)

    sits_bytes : (s : Seat) → Sits at e name Given E s
        → Ends D (receive_bytes (length (link_of e s).down.bytes) e s)
    unfolding receive_bytes
    sits_bytes s h =
        let n = length (link_of e s).down.bytes in
        let Q : Session → Type 0 = λ x. Given x × (length x.link.down.bytes ≡ n) in
        let piece = take n (link_of e s).down.bytes in
        let size : length (at_place s.links.links at).down.bytes ≡ n =
        ap (λ k. length (at_place s.links.links k).down.bytes) (sym placed_at) in
        let q : Sits at e name Q E s = record {
          found = h.found;
          named = h.named;
          link = (h.link, size);
          client = h.client;
        } in
        ends_then D D (links_do (Over e.link (moves.Recv (Some n))) s)
        (λ t. and_then (feed piece t) (λ t. and_then (read_values e t) (hang_up e)))
        (sits_links (Over e.link (moves.Recv (Some n))) Q Delivered E s refl (recv_all n) q)
        (λ t k. ends_then D D (feed piece t) (λ t. and_then (read_values e t) (hang_up e))
        (sits_reader Delivered E t (feed piece t).state [] refl refl k)
        (λ u j. ends_then D D (read_values e u) (hang_up e) (sits_values Delivered few u j)
        sits_hangs))

    sits_eof : (s : Seat) → D s → Ends D (receive_eof e s)
    unfolding receive_eof
    sits_eof s h =
        let q = is_queued (link_of e s).down.eof in
        ends_then D D (links_do (Over e.link (moves.Recv None)) s)
        (λ t. cond q (turn (call.End e.wire) e t) (stays t))
        (sits_links (Over e.link (moves.Recv None)) Delivered Delivered E s refl
        (λ x d. delivered_read x (given_of x d)) h)
        (λ t k. sits_if Delivered E q (turn (call.End e.wire) e t) (stays t)
        (sits_end Delivered few t k) (sits_stays Delivered few t k))

    -- ---- all of it

    -- the client has not ended its link, and what it had went out
    abbrev Going : MemberState → Type 0
    Going m = (is_ended m.state.setup.mode e.wire m.state.past ≡ false) × E m

    sits_reads : (s : Seat) → Sits at e name Given Going s → Ends D (read None e s)
    sits_reads s h =
        let n = length (link_of e s).down.bytes in
        let g : Sits at e name Given E s = record {
          found = h.found;
          named = h.named;
          link = h.link;
          client = h.client.1;
        } in
        subst (λ b. Ends D (cond b (stays s) (and_then (receive_bytes n e s) (receive_eof e))))
        (sym h.client.0)
        (ends_then D D (receive_bytes n e s) (receive_eof e) (sits_bytes s g) sits_eof)

    sits_receives : (s : Seat) → Sits at e name Given Going s → Ends D (receive None e s)
    unfolding receive
    sits_receives s h =
        let before = has_ended Main s in
        ends_then D D (read None e s) (hang_up_main e.wire before) (sits_reads s h)
        (sits_hangs_main Delivered few e.wire refl before)

  said_flows : (bytes : List ℕ) (x : Session) → Flows x → Ends Flows (links_moves.say bytes x)
  unfolding Ends Flows
  said_flows bytes x f none = f

  module _ (s : Seat) (on : has_ended e.wire s ≡ false) where
    abbrev few : Type 0
    few = length (left e s.member) ≤ all_bytes

    abbrev G : MemberState → Type 0
    G = Going few

    sits_takes : Sits at e name Flows (λ m. m ≡ s.member) s
        → Ends (Sits at e name Flows G) (take_out all_bytes e s)
    unfolding take_out Empties
    sits_takes h =
        let c = call.TakeOut e.wire all_bytes in
        let t : ClientTurn = client_step (setup_of s) (log_of s) c in
        let F : Seat → Type 0 = Sits at e name Flows G in
        ends_then F F (turn c e s) (links_do (Put e.link (bytes_of t.reply)))
        (sits_turn c Flows (λ m. m ≡ s.member) G s
        (λ none. (
          still_going (setup_of s) e.wire (log_of s) all_bytes on,
          takes_all (setup_of s) e.wire (log_of s) all_bytes on none,
        )) h)
        (λ u k. sits_links (Put e.link (bytes_of t.reply)) Flows Flows G u refl
        (said_flows (bytes_of t.reply)) k)

    sits_out : Sits at e name Flows (λ m. m ≡ s.member) s
        → Ends (Sits at e name Flows G) (out None e s)
    sits_out h =
        subst (λ b. Ends (Sits at e name Flows G) (cond b (stays s) (take_out all_bytes e s)))
        (sym on) (sits_takes h)

    sits_flow : Sits at e name Flows (λ m. m ≡ s.member) s
        → Ends (Sits at e name Delivered (Empties e few)) (flow e s)
    unfolding flow
    sits_flow h =
        let D : Seat → Type 0 = Sits at e name Delivered (Empties e few) in
        ends_then (Sits at e name Flows G) D (out None e s) _ (sits_out h)
        (λ t k. ends_then (Sits at e name Served G) D
        (links_do (Over e.link (moves.Serve None)) t) _
        (sits_links (Over e.link (moves.Serve None)) Flows Served G t refl flow_serves k)
        (λ u j. ends_then (Sits at e name Given G) D
        (links_do (Over e.link (moves.Send None)) u) (receive None e)
        (sits_links (Over e.link (moves.Send None)) Served Given G u refl flow_sends j)
        (sits_receives few)))

-- ---- a link of a world

module _ (l : Limits) (heard : ℕ → List ℕ) (raw : List ℕ → List ℕ) (lines : List Line)
    (w : WorldState) (h : WorldStands l heard raw lines w) (at : ℕ)
    (below : at < length w.links.links) where
  abbrev name : List ℕ
  name = (at_place w.links.links at).name

  abbrev Gives : Option ℕ → Type 0
  Gives c = let m = flow_step c name w in
      Flows (session_at at w.links) → is_open (at_place w.links.links at).up.eof ≡ true
      → HasNotEnded c w → m.fault ≡ None
      → IsDelivered m.state.links (at_place m.state.links.links at) × IsEmptied c w m.state

  gives_apart : Gives None
  unfolding links_step within Flows
  gives_apart f up held none =
      (links_delivery.flow_delivers w.links at h.links.unique below f.0 up f.1 none, tt)

  gives_client : (c : ℕ) → end_of_link name w.ends ≡ Some c → Gives (Some c)
  unfolding client_does within Ends Delivered Given Empties
  gives_client c is f up held none =
      let there = end_there name w.ends c is in
      let e = (end_at w.ends c).end in
      let m = client_at w c in
      let part = (h.each c there.0).0 in
      let within_links : e.place < length w.links.links =
      subst (λ n. n < length w.links.links) (sym part.place_is)
      (part.member.below e.wire part.has) in
      let named : (at_place w.links.links e.place).name ≡ e.link =
      ap (λ n. (at_place w.links.links n).name) part.place_is ∙ part.member.placed e.wire part.has
      ∙ sym part.named in
      let place : e.place ≡ at =
      h.links.unique at e.place below within_links (named ∙ there.1) in
      let k = sits_flow at e m.name place part.named (seat_at c w) held (record {
        found = place_is w.links h.links.unique e.link at below (sym there.1);
        named = refl;
        link = f;
        client = refl;
      }) none in
      let t = (flow e (seat_at c w)).state in
      let new : EndState = record { end = e; reader = t.reader } in
      let end_is : end_at (with_seat c w t).ends c ≡ new =
      get_or-set_same w.ends c new (fresh_end 0 Main [] 0) there.0 in
      let member_is : member_at (with_seat c w t).members e.client ≡ t.member =
      get_or-set_same w.members e.client t.member (fresh_member [] 0 0 no_setup)
      (h.clients c there.0).0 in (
        record { up = k.link.0.0; down = k.link.1; sent = k.link.0.1; ended = k.link.0.2 },
        λ few. ap (λ (d : EndState). untaken
            (member_at (with_seat c w t).members d.end.client).state.setup d.end.wire
            (member_at (with_seat c w t).members d.end.client).state.past) end_is
            ∙ ap (left e) member_is
            ∙ k.client few,
      )

  pub flow_delivers : FlowDelivers w at
  unfolding step Flows
  flow_delivers on up down held none =
      elim (end_of_link name w.ends) as (λ c. end_of_link name w.ends ≡ c → Gives c) [
        | None ↦ λ is. gives_apart
        | Some c ↦ gives_client c
      ] refl (on, down) up held none
