-- What each client's log gets of what its end reads, after each event of a world.
use Rattle.std.proofs.Common.{◌≡◌, ◌≤◌, ◌<◌, ◌+◌, ◌-◌, ◌⊎◌, ℕ, zero, suc, List, [], ◌∷◌, ◌++◌}
use Rattle.std.proofs.Common.{false, not, Some, None, Option, length, refl, sym, ap, subst}
use Rattle.std.proofs.Common.{◌∙◌, arith, append-nil, append_assoc, inl, inr, length-append}
use Rattle.std.proofs.Common.{length-set, slice_set}
use Rattle.std.specs.Prelude.{◌||◌}
use Rattle.std.specs.Option.{is_some}
use Rattle.std.specs.Str.{bytes_eq}
use Rattle.std.proofs.lemmas.Bool.{cases_lt}
use Rattle.std.proofs.lemmas.Grind.{get_or-set_at}
use Rattle.std.proofs.lemmas.List.{get_or-append_right, get_or-set_other, get_or_append_left}
use Rattle.std.proofs.lemmas.List.{get_or_push}
use Rattle.resp_stream.specs.Parse.{Batch}
use Rattle.resp_stream.proofs.Onward.{no_values, none_valued}
use Rattle.resp_value.specs.Spelling.{request_spelling}
use Rattle.resp_value.specs.Tree.{Tree}
use Rattle.serial_model.specs.declared.history.Limits.{Limits}
use Rattle.shared_cache.specs.declared.log.ClientCall.{ClientCall}
use Rattle.shared_cache.specs.declared.log.ClientCall.TheVariants as call
use Rattle.shared_cache.specs.declared.log.ClientMode.{ClientMode}
use Rattle.shared_cache.specs.declared.log.Shape.{Shape}
use Rattle.shared_cache.specs.declared.log.Shape.TheVariants.{Single, Pair}
use Rattle.shared_cache.specs.declared.log.Wire.{Wire}
use Rattle.shared_cache.specs.declared.log.Wire.TheVariants.{Main, Side}
use Rattle.shared_cache.specs.Held.{Setup}
use Rattle.shared_cache.specs.Laws.{Every}
use Rattle.shared_cache.specs.Steps.{client_step}
use Rattle.script_text.specs.declared.event.Event.{Event}
use Rattle.script_text.specs.declared.event.Event.TheVariants.{Raw, Say, Bytes, Client, Out, Serve}
use Rattle.script_text.specs.declared.event.Event.TheVariants.{Send, Recv, Flow, FlowAll, Cut, Ask}
use Rattle.script_text.specs.declared.event.Event.TheVariants.{Do, Poll, Show, Now, Tick}
use Rattle.script_text.specs.declared.line.Line.{Line}
use Rattle.server_links.specs.declared.fault.WorldFault.{WorldFault}
use Rattle.server_links.specs.declared.fault.WorldFault.TheVariants.{NameTaken, NoName}
use Rattle.server_links.specs.declared.fault.WorldFault.TheVariants.{NothingThere, Refused}
use Rattle.server_links.specs.declared.link.LinkMove.TheVariants as moves
use Rattle.server_links.specs.LinkEvent as link_event
use Rattle.server_links.specs.LinkEvent.{LinkEvent}
use Rattle.server_links.specs.LinksState.{LinksState, at_place}
use Rattle.server_links.specs.LinkSteps as links
use Rattle.server_links.specs.Moves as link_moves
use Rattle.server_links.specs.LinkSteps.{place_of}
use Rattle.server_links.specs.OneHistory.{read_by, read_on}
use Rattle.server_links.specs.Outcome.{Outcome, and_then, does, refuses, within}
use Rattle.server_links.proofs.Carries.{read_more}
use Rattle.server_links.proofs.LinksStand.{not_equal}
use Rattle.server_links.proofs.Names.{placed, unplaced}
use Rattle.world_run.specs.WorldState.{EndState, HaveClients, LinkEnd, MemberState, WorldState}
use Rattle.world_run.specs.WorldState.{client_at, end_at, end_of_link, fresh_end, fresh_member}
use Rattle.world_run.specs.WorldState.{link_on, member_at, no_setup}
use Rattle.world_run.specs.Members.{Seat, log_of, seat_at, setup_of}
use Rattle.world_run.specs.ClientMoves as client
use Rattle.world_run.specs.ClientMoves.{show, turn}
use Rattle.world_run.specs.ReadLog.{Going, IsGot, ReadIsGot, has_eof, is_eof_of}
use Rattle.world_run.specs.ScheduleLog.{answerer}
use Rattle.world_run.specs.World.{Stepped, client_does, connect, end_named, flow_at, flow_first}
use Rattle.world_run.specs.World.{flow_step, fresh_ends, is_served, is_taken, join, links_step}
use Rattle.world_run.specs.World.{named_does, not_served, out_step, raw_out, recv_step, said_step}
use Rattle.world_run.specs.World.{setup_by, step}
use Rattle.world_run.specs.World as world
use Rattle.world_run.proofs.Flowing.{first_stands, heard_first}
use Rattle.world_run.proofs.Joining.{raw_made}
use Rattle.world_run.proofs.Kept.{IsOrderly, flow_orderly, out_orderly, receive_orderly}
use Rattle.world_run.proofs.Kept.{show_orderly, turn_orderly}
use Rattle.world_run.proofs.Links.{IsUnread, name_of_event}
use Rattle.world_run.proofs.Names.{end_named_there, end_nowhere, end_there}
use Rattle.world_run.proofs.ReadLogMoves.{Done, done_if, done_then}
use Rattle.world_run.proofs.ReadLogSeats.{By, Gets, Placed, Ready, Settles, Unread, by_gets}
use Rattle.world_run.proofs.ReadLogSeats.{by_unread, eof_more, flow_settles, gets_flow, gets_out}
use Rattle.world_run.proofs.ReadLogSeats.{gets_receive, gets_settles, gets_show, gets_turn}
use Rattle.world_run.proofs.ReadLogSeats.{link_grows, receive_settles, same_out, unread_quiet}
use Rattle.world_run.proofs.ScheduleLogEvents.{made, mine, theirs}
use Rattle.world_run.proofs.ScheduleLogLines.{Apart, IsAsked, q_flow, q_out, q_receive, q_show}
use Rattle.world_run.proofs.ScheduleLogLines.{q_step}
use Rattle.world_run.proofs.ScheduleLogMoves.{Answered, ask_called, poll_called, send_called}
use Rattle.world_run.proofs.ScheduleLogMoves.{turn_called}
use Rattle.world_run.proofs.Seats.{by_place}
use Rattle.world_run.proofs.Turns.{IsApart}
use Rattle.world_run.proofs.Worlds.{NoneHas, WorldStands}

-- no link has this name
abbrev pub NoLink : LinksState → List ℕ → Type 0
NoLink w name = (i : ℕ) → i < length w.links → (at_place w.links i).name ≡ name → ⊥

-- links are not lost, nor is the name of one
pub record NamesKept (w v : LinksState) : Type 0 where
  pub size : length w.links ≤ length v.links
  pub names : (i : ℕ) → i < length w.links
      → (at_place v.links i).name ≡ (at_place w.links i).name

names_same : (w : LinksState) → NamesKept w w
names_same w = record { size = omega arith; names = λ i lt. refl }

names_both : (w u v : LinksState) → NamesKept w u → NamesKept u v → NamesKept w v
names_both w u v a b = record {
  size = omega (arith, a.size, b.size);
  names = λ i lt. b.names i (omega (arith, lt, a.size)) ∙ a.names i lt;
}

nowhere_before : (w v : LinksState) (name : List ℕ) → NamesKept w v → NoLink v name
    → NoLink w name
nowhere_before w v name k none i lt e =
    none i (omega (arith, lt, k.size)) (k.names i lt ∙ e)

-- What is said of each end of a client by what it read; and nothing was read of what is no link.
pub record Accounts (lines : List Line) (w : WorldState) : Type 0 where
  pub each : (k : ℕ) → k < length w.ends → ReadIsGot lines (end_at w.ends k).end (client_at w k)
  pub apart : (name : List ℕ) → NoLink w.links name → has_eof name lines ≡ false

-- where an outcome meets no fault
abbrev pub Accounted : List Line → Stepped → Type 0
Accounted lines m = Done (λ v ls. Accounts (lines ++ ls) v) m

no_eof_more : (name : List ℕ) (lines ls : List Line) → has_eof name lines ≡ false
    → has_eof name ls ≡ false → has_eof name (lines ++ ls) ≡ false
no_eof_more name lines ls a b =
    eof_more name lines ls ∙ ap (λ x. x || has_eof name ls) a ∙ b

accounts_still : (lines : List Line) (w : WorldState) → Accounts lines w
    → Accounts (lines ++ []) w
accounts_still lines w k = subst (λ x. Accounts x w) (sym (append-nil lines)) k

refuses_no : (lines : List Line) (w : WorldState) (f : WorldFault) → Accounted lines (refuses w f)
refuses_no lines w f none = absurd (let no : Some f ≡ None = none in cc)

-- ---- the links

-- of a link that isn't there nothing is read
unread_nowhere : (event : LinkEvent) (w : LinksState) (name : List ℕ) → NoLink w name
    → Unread name (links.step w event).lines
unfolding links.step name_of_event IsUnread
unread_nowhere (link_event.Raw n) w name none =
    unread_quiet name _ (q_step (Some name) (link_event.Raw n) w (inl tt))
unread_nowhere (link_event.Put n bytes) w name none =
    unread_quiet name _ (q_step (Some name) (link_event.Put n bytes) w (inl tt))
unread_nowhere (link_event.Over n move) w name none =
    elim (place_of n w) as (λ p. place_of n w ≡ p
    → Unread name (links.step w (link_event.Over n move)).lines) [
      | None ↦ λ is.
          subst (λ p. Unread name (links.over_named p (link_moves.move_of (link_event.Over n move))
          w).lines) (sym is) (record { read = refl; eof = refl })
      | Some at ↦ λ is.
          let there = placed n w at is in
          unread_quiet name _ (q_step (Some name) (link_event.Over n move) w
          (inr (not_equal n name (λ e. none at there.0 (there.1 ∙ e)))))
    ] refl
unread_nowhere (link_event.Now moment) w name none =
    unread_quiet name _ (q_step (Some name) (link_event.Now moment) w (inl tt))
unread_nowhere link_event.Tick w name none =
    unread_quiet name _ (q_step (Some name) link_event.Tick w (inl tt))

links_names : (event : LinkEvent) (w : LinksState) → NamesKept w (links.step w event).state
links_names event w = let g = link_grows event w in record { size = g.size; names = g.names }

module _ (lines : List Line) (w : WorldState) (k : Accounts lines w) where
  -- no client's end reads
  linked : (event : LinkEvent)
      → ((i : ℕ) → i < length w.ends
      → IsUnread event ⊎ Apart (Some (end_at w.ends i).end.link) (name_of_event event))
      → Accounted lines (links_step event w)
  unfolding links_step within
  linked event r none = record {
    each = λ i lt.
        let e = (end_at w.ends i).end in
        by_unread e lines (links.step w.links event).lines (client_at w i).state.past
        (unread_quiet e.link (links.step w.links event).lines
        (q_step (Some e.link) event w.links (r i lt))) (k.each i lt);
    apart = λ name free.
        let before = nowhere_before w.links (links.step w.links event).state name
        (links_names event w.links) free in
        no_eof_more name lines (links.step w.links event).lines (k.apart name before)
        (unread_nowhere event w.links name before).eof;
  }

  pub unread_linked : (event : LinkEvent) → IsUnread event → Accounted lines (links_step event w)
  unread_linked event none = linked event (λ i lt. inl none)

  -- of a link that no client has
  pub apart_linked : (event : LinkEvent) → NoneHas w (name_of_event event)
      → Accounted lines (links_step event w)
  apart_linked event none =
      linked event (λ i lt. inr (not_equal (name_of_event event) (end_at w.ends i).end.link
      (λ same. none i lt (sym same))))

-- ---- a client

-- What a move does at an end: nothing is read on another link, nor got of it.
pub record AtEnd (lines : List Line) (e : LinkEnd) (s : Seat) (m : Outcome Seat) : Type 0 where
  pub own : Settles e lines m
  pub unread : (name : List ℕ) → bytes_eq e.link name ≡ false → m.fault ≡ None
      → Unread name m.lines
  pub others : (u : Wire) → (u ≡ e.wire → ⊥) → Gets u (log_of s) (log_of m.state)

module _ (l : Limits) (heard : ℕ → List ℕ) (raw : List ℕ → List ℕ) (lines : List Line)
    (w : WorldState) (h : WorldStands l heard raw lines w) (k : Accounts lines w) (at : ℕ)
    (below : at < length w.ends) where
  abbrev S : Seat
  S = seat_at at w

  abbrev E : LinkEnd
  E = (end_at w.ends at).end

  client_below : E.client < length w.members
  client_below = (h.clients at below).0

  placed_there : Placed w.links E.link E.place
  placed_there =
      let p = (h.each at below).0 in
      let m = p.member in
      record {
        unique = h.links.unique;
        below = subst (λ n. n < length w.links.links) (sym p.place_is) (m.below E.wire p.has);
        named = ap (λ n. (at_place w.links.links n).name) p.place_is ∙ m.placed E.wire p.has
            ∙ sym p.named;
      }

  pub ready : Ready E lines S
  ready = record {
    place = placed_there;
    due = k.each at below;
    reading = λ going. ((h.each at below).2 going).reading;
  }

  other_link : (i : ℕ) → i < length w.ends → (i ≡ at → ⊥) → (end_at w.ends i).end.link ≡ E.link
      → ⊥
  other_link i lt n same = n (h.distinct at i below lt same)

  -- of one client each end is of a link of its own
  other_wire_there : (i : ℕ) → i < length w.ends → (i ≡ at → ⊥)
      → (end_at w.ends i).end.client ≡ E.client → (end_at w.ends i).end.wire ≡ E.wire → ⊥
  other_wire_there i lt n client wire =
      other_link i lt n ((h.each i lt).0.named
      ∙ ap (λ u. link_on u (client_at w i).name) wire
      ∙ ap (λ c. link_on E.wire (member_at w.members c).name) client
      ∙ sym (h.each at below).0.named)

  module _ (t : Seat) (ls : List Line) where
    abbrev set : EndState
    set = record { end = E; reader = t.reader }

    -- which ends there are is as before
    end_kept : (i : ℕ) → (end_at (slice_set w.ends at set) i).end ≡ (end_at w.ends i).end
    end_kept i =
        by_place ((end_at (slice_set w.ends at set) i).end ≡ (end_at w.ends i).end) i at
        (λ here. ap (λ (e : EndState). e.end)
        (get_or-set_at w.ends at i set (fresh_end 0 Main [] 0) here below)
        ∙ ap (λ n. (end_at w.ends n).end) (sym here))
        (λ n. ap (λ (e : EndState). e.end)
        (get_or-set_other w.ends at i set (fresh_end 0 Main [] 0) n))

    -- each end of a client stands as it did, or its client has changed
    abbrev Stands : LinkEnd → Type 0
    Stands e =
        By e (lines ++ ls) (member_at (slice_set w.members E.client t.member) e.client).state.past

    end_now : (i : ℕ) → i < length w.ends → By E (lines ++ ls) (log_of t)
        → ((name : List ℕ) → bytes_eq E.link name ≡ false → Unread name ls)
        → ((u : Wire) → (u ≡ E.wire → ⊥) → Gets u (log_of S) (log_of t))
        → Stands (end_at w.ends i).end
    end_now i lt own unread others =
        let e = (end_at w.ends i).end in
        let changed : (e : LinkEnd) → e.client ≡ E.client → By e (lines ++ ls) (log_of t)
        → Stands e =
        λ e same by. subst (λ (m : MemberState). By e (lines ++ ls) m.state.past)
        (sym (mine E.client w.members t.member e.client same client_below)) by in
        by_place (Stands e) i at
        (λ here. subst (λ n. Stands (end_at w.ends n).end) (sym here) (changed E refl own))
        (λ n.
        let quiet = unread e.link (not_equal E.link e.link
        (λ same. other_link i lt n (sym same))) in
        by_place (Stands e) e.client E.client
        (λ same. changed e same (by_gets e lines ls (client_at w i).state.past (log_of t)
        (subst (λ c. Gets e.wire (member_at w.members c).state.past (log_of t)) (sym same)
        (others e.wire (other_wire_there i lt n same))) quiet (k.each i lt)))
        (λ differ. subst (λ (m : MemberState). By e (lines ++ ls) m.state.past)
        (sym (theirs E.client w.members t.member e.client differ))
        (by_unread e lines ls (client_at w i).state.past quiet (k.each i lt))))

  pub accounted : (move : LinkEnd → Seat → Outcome Seat) → IsOrderly move
      → AtEnd lines E S (move E S) → Accounted lines (client_does at move w)
  unfolding client_does within
  accounted move orderly there none =
      let t = (move E S).state in
      let ls = (move E S).lines in
      let kept = (orderly E S).kept.ends none in
      let names : NamesKept w.links t.links = record {
        size = omega (arith, kept.links.size);
        names = kept.links.stay.named;
      } in
      let unread : (name : List ℕ) → bytes_eq E.link name ≡ false → Unread name ls =
      λ name n. there.unread name n none in
      record {
        each = λ i lt.
            subst (Stands t ls) (sym (end_kept t ls i))
            (end_now t ls i (subst (λ n. i < n) (length-set w.ends at (set t ls)) lt)
            (there.own none) unread there.others);
        apart = λ name free.
            let before = nowhere_before w.links t.links name names free in
            no_eof_more name lines ls (k.apart name before)
            (unread name (not_equal E.link name
            (λ same. before E.place placed_there.below (placed_there.named ∙ same)))).eof;
      }

-- ---- a client is asked

answer_unread : (link : List ℕ) (l : Line) (name : List ℕ) → answerer l ≡ Some name
    → (read_by link l ≡ []) × (is_eof_of link l ≡ false)
answer_unread link l name is = grind arith

asked_apart : (u : Wire) (c : ClientCall) → IsAsked c → IsApart u c
asked_apart u (call.Ask q) is = tt
asked_apart u (call.Send words) is = tt
asked_apart u (call.Poll n) is = tt
asked_apart u (call.TakeOut w most) is = absurd is
asked_apart u (call.Got w v) is = absurd is
asked_apart u (call.End w) is = absurd is

module _ (c : ClientCall) (is : IsAsked c) (e : LinkEnd) (s : Seat)
    (called : Answered c e s (client_step (setup_of s) (log_of s) c)) where
  asked_unread : (link : List ℕ) → (turn c e s).fault ≡ None → Unread link (turn c e s).lines
  asked_unread link none =
      let k = turn_called c e s called none in
      let a = answer_unread link k.answer s.member.name k.by in
      subst (Unread link) (sym k.printed) (record {
        read = append-nil (read_by link k.answer) ∙ a.0;
        eof = ap (λ b. b || false) a.1;
      })

  asked_gets : (u : Wire) → Gets u (log_of s) (log_of (turn c e s).state)
  unfolding turn and_then
  asked_gets u = gets_turn u (setup_of s) (log_of s) c (asked_apart u c is)

-- ---- a client is made

-- by these lines nothing was read on the link, nor an EOF, and nothing was got of it
fresh_by : (e : LinkEnd) (lines : List Line) → Unread e.link lines → By e lines []
fresh_by e lines none =
    subst (λ r. IsGot r (has_eof e.link lines) [] Going) (sym none.read)
    (sym no_values, ap (λ (b : Batch Tree). b.fault) none_valued, none.eof)

unread_both : (name : List ℕ) (xs ys : List Line) → Unread name xs → Unread name ys
    → Unread name (xs ++ ys)
unread_both name xs ys a b = record {
  read = read_more name xs ys ∙ ap (λ x. x ++ read_on name ys) a.read ∙ b.read;
  eof = no_eof_more name xs ys a.eof b.eof;
}

every_end : (P : EndState → Type 0) (es : List EndState) → Every P es → (i : ℕ) → i < length es
    → P (end_at es i)
every_end P [] all i lt = absurd (omega (arith, lt))
every_end P (e ∷ es) all zero lt = all.0
every_end P (e ∷ es) all (suc i) lt = every_end P es all.1 i (omega (arith, lt))

-- ends of the new client join the others
module _ (lines : List Line) (w : WorldState) (k : Accounts lines w) (clients : HaveClients w)
    (m : MemberState) (empty : m.state.past ≡ []) (fresh : List EndState)
    (each : (i : ℕ) → i < length fresh → ((end_at fresh i).end.client ≡ length w.members)
    × Unread (end_at fresh i).end.link lines) where
  abbrev joined : WorldState
  joined = record w { members = w.members ++ m ∷ []; ends = w.ends ++ fresh }

  -- of an end that was there, and its client
  old_end : (i : ℕ) → i < length w.ends
      → ReadIsGot lines (end_at joined.ends i).end (client_at joined i)
  old_end i lt =
      let e = end_at w.ends i in
      subst (λ (x : EndState). ReadIsGot lines x.end (member_at joined.members x.end.client))
      (sym (get_or_append_left w.ends fresh (fresh_end 0 Main [] 0) i lt))
      (subst (ReadIsGot lines e.end)
      (sym (get_or_append_left w.members (m ∷ []) (fresh_member [] 0 0 no_setup) e.end.client
      (clients i lt).0)) (k.each i lt))

  new_end : (i : ℕ) → i < length fresh
      → let e = (end_at fresh i).end in ReadIsGot lines e (member_at joined.members e.client)
  new_end i lt =
      let e = (end_at fresh i).end in
      subst (λ (x : MemberState). By e lines x.state.past)
      (sym (get_or_push w.members m (fresh_member [] 0 0 no_setup) e.client
      (sym (each i lt).0)))
      (subst (By e lines) (sym empty) (fresh_by e lines (each i lt).1))

  pub accounts_joined : Accounts lines joined
  accounts_joined = record {
    each = λ i lt.
        elim (cases_lt i (length w.ends)) [
          | inl old ↦ old_end i old
          | inr le ↦
              let j = i - length w.ends in
              let size = length-append w.ends fresh in
              subst (λ (x : EndState). ReadIsGot lines x.end
              (member_at joined.members x.end.client))
              (sym (get_or-append_right w.ends fresh (length w.ends) i (fresh_end 0 Main [] 0)
              refl le))
              (new_end j (omega (arith, lt, le, size)))
        ];
    apart = k.apart;
  }

-- by a link that is made nothing is read
unread_raw : (link name : List ℕ) (ls : LinksState)
    → Unread name (links.step ls (link_event.Raw link)).lines
unfolding IsUnread
unread_raw link name ls = unread_quiet name _ (q_step (Some name) (link_event.Raw link) ls (inl tt))

module _ (lines : List Line) (w : WorldState) (k : Accounts lines w) (clients : HaveClients w)
    (nowhere : (name : List ℕ) → NoLink w.links name → read_on name lines ≡ [])
    (name : List ℕ) (setup : Setup) where
  -- no link had this name
  free_link : (link : List ℕ) (ls : LinksState) → (links.step ls (link_event.Raw link)).fault ≡ None
      → NoLink ls link
  free_link link ls none = unplaced link ls (raw_made link ls none).free

  unread_free : (link : List ℕ) → NoLink w.links link → Unread link lines
  unread_free link free = record { read = nowhere link free; eof = k.apart link free }

  abbrev Fresh : List Line → EndState → Type 0
  Fresh more f = (f.end.client ≡ length w.members) × Unread f.end.link more

  -- a client of one link
  a_single : setup.mode.shape ≡ Single → Accounted lines (connect Single name setup w)
  unfolding links_step within IsUnread
  a_single is =
      let link = link_on Main name in
      let place = length w.links.links in
      let m = links_step (link_event.Raw link) w in
      let next = join name place place setup in
      let more = lines ++ m.lines in
      let new = fresh_member name place place setup in
      done_then (λ v ls. m.fault ≡ None) (λ v ls. Accounts (lines ++ ls) v) m next (λ none. none)
      (λ ok none.
      let fresh = fresh_ends setup.mode.shape (length w.members) name place place in
      let all : Every (Fresh more) fresh =
      subst (λ s. Every (Fresh more) (fresh_ends s (length w.members) name place place)) (sym is) (
        (
          refl,
          unread_both link lines m.lines (unread_free link (free_link link w.links ok))
              (unread_raw link link w.links),
        ),
        tt,
      ) in
      subst (λ x. Accounts x (next m.state).state)
      (ap (λ x. lines ++ x) (sym (append-nil m.lines)))
      (accounts_joined more m.state (unread_linked lines w k (link_event.Raw link) tt ok) clients
      new refl fresh (every_end (Fresh more) fresh all)))

  -- of two, that for invalidations is made first
  a_pair : setup.mode.shape ≡ Pair → Accounted lines (connect Pair name setup w)
  unfolding links_step within IsUnread
  a_pair is =
      let side = link_on Side name in
      let main = link_on Main name in
      let place = length w.links.links in
      let m = links_step (link_event.Raw side) w in
      let v = m.state in
      let n = links_step (link_event.Raw main) v in
      let next = join name (place + 1) place setup in
      let more = (lines ++ m.lines) ++ n.lines in
      let new = fresh_member name (place + 1) place setup in
      let Q : WorldState → List Line → Type 0 = λ v ls. Accounts (lines ++ ls) v in
      done_if Q (is_some (place_of main w.links)) (refuses w NameTaken) _
      (λ b. refuses_no lines w NameTaken)
      (λ b. done_then (λ v ls. m.fault ≡ None) Q m
      (λ w. and_then (links_step (link_event.Raw main) w) next) (λ none. none)
      (λ ok. done_then (λ v ls. n.fault ≡ None) (λ v ls. Accounts (lines ++ (m.lines ++ ls)) v) n
      next (λ none. none)
      (λ okay none.
      let k1 = unread_linked lines w k (link_event.Raw side) tt ok in
      let k2 = unread_linked (lines ++ m.lines) v k1 (link_event.Raw main) tt okay in
      let unread : (link : List ℕ) → NoLink w.links link → Unread link more =
      λ link free. unread_both link (lines ++ m.lines) n.lines
      (unread_both link lines m.lines (unread_free link free) (unread_raw side link w.links))
      (unread_raw main link v.links) in
      let free = free_link main v.links okay in
      let sooner = links_names (link_event.Raw side) w.links in
      let fresh = fresh_ends setup.mode.shape (length w.members) name (place + 1) place in
      let all : Every (Fresh more) fresh =
      subst (λ s. Every (Fresh more) (fresh_ends s (length w.members) name (place + 1) place))
      (sym is) (
        (refl, unread side (free_link side w.links ok)),
        ((refl, unread main (nowhere_before w.links v.links main sooner free)), tt),
      ) in
      subst (λ x. Accounts x (next n.state).state)
      (append_assoc lines m.lines n.lines
      ∙ ap (λ x. lines ++ (m.lines ++ x)) (sym (append-nil n.lines)))
      (accounts_joined more n.state k2 clients new refl fresh
      (every_end (Fresh more) fresh all)))))

  a_connect : (shape : Shape) → setup.mode.shape ≡ shape
      → Accounted lines (connect shape name setup w)
  a_connect Single is = a_single is
  a_connect Pair is = a_pair is

-- ---- events

module _ (l : Limits) (heard : ℕ → List ℕ) (raw : List ℕ → List ℕ) (lines : List Line)
    (w : WorldState) (h : WorldStands l heard raw lines w) (k : Accounts lines w) where
  -- a move of a client at the end of this link, where there is one
  at_link : (name : List ℕ) (step : Option ℕ → Stepped) (move : LinkEnd → Seat → Outcome Seat)
      → ((at : ℕ) → step (Some at) ≡ client_does at move w) → IsOrderly move
      → ((e : LinkEnd) (s : Seat) → Ready e lines s → AtEnd lines e s (move e s))
      → (end_of_link name w.ends ≡ None → Accounted lines (step None))
      → Accounted lines (step (end_of_link name w.ends))
  at_link name step move is orderly settling none =
      elim (end_of_link name w.ends) as (λ c. end_of_link name w.ends ≡ c
      → Accounted lines (step c)) [
        | None ↦ none
        | Some at ↦ λ there.
            let below = (end_there name w.ends at there).0 in
            subst (Accounted lines) (sym (is at))
            (accounted l heard raw lines w h k at below move orderly
            (settling (end_at w.ends at).end (seat_at at w)
            (ready l heard raw lines w h k at below)))
      ] refl

  -- of no client
  a_apart : (name : List ℕ) (event : LinkEvent) → name_of_event event ≡ name
      → end_of_link name w.ends ≡ None → Accounted lines (links_step event w)
  a_apart name event is none =
      apart_linked lines w k event
      (subst (NoneHas w) (sym is) (end_nowhere name w.ends none))

  a_flow : (name : List ℕ) → Accounted lines (flow_step (end_of_link name w.ends) name w)
  unfolding name_of_event
  a_flow name =
      at_link name (λ c. flow_step c name w) client.flow (λ at. refl) flow_orderly
      (λ e s r. record {
        own = flow_settles e lines s r;
        unread = λ n apart none. unread_quiet n (client.flow e s).lines (q_flow (Some n) e s apart);
        others = λ u other. gets_flow e u other s;
      })
      (a_apart name (link_event.Over name moves.Flow) refl)

  a_recv : (name : List ℕ) (count : Option ℕ)
      → Accounted lines (recv_step (end_of_link name w.ends) name count w)
  unfolding name_of_event
  a_recv name count =
      at_link name (λ c. recv_step c name count w) (client.receive count) (λ at. refl)
      (receive_orderly count)
      (λ e s r. record {
        own = receive_settles e count lines s r;
        unread = λ n apart none.
            unread_quiet n (client.receive count e s).lines (q_receive (Some n) e count s apart);
        others = λ u other. gets_receive e u other count s;
      })
      (a_apart name (link_event.Over name (moves.Recv count)) refl)

  a_raw_out : (p count : Option ℕ) → Accounted lines (raw_out p count w)
  a_raw_out None count = refuses_no lines w NoName
  a_raw_out (Some at) None = λ none. accounts_still lines w k
  a_raw_out (Some at) (Some n) = refuses_no lines w NothingThere

  a_out : (name : List ℕ) (count : Option ℕ)
      → Accounted lines (out_step (end_of_link name w.ends) name count w)
  a_out name count =
      at_link name (λ c. out_step c name count w) (client.out count) (λ at. refl)
      (out_orderly count)
      (λ e s r.
      let quiet : (n : List ℕ) → Unread n (client.out count e s).lines =
      λ n. unread_quiet n (client.out count e s).lines (q_out (Some n) e count s) in
      record {
        own = gets_settles e lines s (client.out count e s) (same_out e count s).gets
            (quiet e.link) r.due;
        unread = λ n apart none. quiet n;
        others = λ u other. gets_out e u other count s;
      })
      (λ none. a_raw_out (place_of name w.links) count)

  a_said : (name bytes : List ℕ)
      → Accounted lines (said_step (end_of_link name w.ends) name bytes w)
  unfolding IsUnread
  a_said name bytes =
      elim (end_of_link name w.ends) as (λ c. Accounted lines (said_step c name bytes w)) [
        | None ↦ unread_linked lines w k (link_event.Put name bytes) tt
        | Some at ↦ refuses_no lines w NoName
      ]

  -- a move of a client that reads nothing
  a_named : (name : List ℕ) (move : LinkEnd → Seat → Outcome Seat) → IsOrderly move
      → ((e : LinkEnd) (s : Seat) (link : List ℕ) → (move e s).fault ≡ None
      → Unread link (move e s).lines)
      → ((e : LinkEnd) (s : Seat) (u : Wire) → Gets u (log_of s) (log_of (move e s).state))
      → Accounted lines (named_does (end_named name w) move w)
  a_named name move orderly unread gets =
      elim (end_named name w) as (λ c. end_named name w ≡ c
      → Accounted lines (named_does c move w)) [
        | None ↦ λ is. refuses_no lines w NoName
        | Some at ↦ λ is.
            let below = (end_named_there name w at is).0 in
            let e = (end_at w.ends at).end in
            let s = seat_at at w in
            accounted l heard raw lines w h k at below move orderly (record {
              own = λ none.
                  gets_settles e lines s (move e s) (gets e s e.wire) (unread e s e.link none)
                  (k.each at below) none;
              unread = λ n apart none. unread e s n none;
              others = λ u other. gets e s u;
            })
      ] refl

  a_asked : (name : List ℕ) (c : ClientCall) → IsAsked c
      → ((e : LinkEnd) (s : Seat) → Answered c e s (client_step (setup_of s) (log_of s) c))
      → Accounted lines (named_does (end_named name w) (turn c) w)
  a_asked name c is called =
      a_named name (turn c) (turn_orderly c) (λ e s. asked_unread c is e s (called e s))
      (λ e s. asked_gets c is e s (called e s))

  a_client : (name : List ℕ) (mode : ClientMode) (capacity : ℕ)
      → Accounted lines (world.client_step name mode capacity w)
  a_client name mode capacity =
      let setup = setup_by w mode capacity in
      let Q : WorldState → List Line → Type 0 = λ v ls. Accounts (lines ++ ls) v in
      done_if Q (not (is_served mode)) (refuses w (Refused not_served)) _
      (λ b. refuses_no lines w (Refused not_served))
      (λ b. done_if Q (is_taken name w) (refuses w NameTaken) (made name mode capacity w)
      (λ b. refuses_no lines w NameTaken)
      (λ b. done_then (λ v ls. (v ≡ w) × (ls ≡ [])) Q (does w w []) (connect mode.shape name setup)
      (λ none. (refl, refl))
      (λ same. a_connect lines w k h.clients h.links.unread name setup mode.shape refl)))

  a_raw : (name : List ℕ) → Accounted lines (world.raw_step name w)
  unfolding IsUnread
  a_raw name =
      done_if (λ v ls. Accounts (lines ++ ls) v) (is_taken name w) (refuses w NameTaken)
      (links_step (link_event.Raw name) w) (λ b. refuses_no lines w NameTaken)
      (λ b. unread_linked lines w k (link_event.Raw name) tt)

-- ---- all links flow

module _ (l : Limits) (heard : ℕ → List ℕ) (raw : List ℕ → List ℕ) (lines : List Line)
    (w : WorldState) (h : WorldStands l heard raw lines w) (k : Accounts lines w) where
  a_first : (n : ℕ) → n ≤ length w.links.links → Accounted lines (flow_first n w)
  unfolding flow_first
  a_first zero le = λ none. accounts_still lines w k
  a_first (suc n) le =
      let m = flow_first n w in
      let small : n ≤ length w.links.links = omega (arith, le) in
      done_then (λ v ls. Accounts (lines ++ ls) v
      × WorldStands l (heard_first l heard raw lines w h n) raw (lines ++ ls) v)
      (λ v ls. Accounts (lines ++ ls) v) m (flow_at n)
      (λ none. (a_first n small none, first_stands l heard raw lines w h n small none))
      (λ p none.
      let v = m.state in
      let name = (at_place v.links.links n).name in
      subst (λ x. Accounts x (flow_at n v).state)
      (append_assoc lines m.lines (flow_at n v).lines)
      (a_flow l (heard_first l heard raw lines w h n) raw (lines ++ m.lines) v p.1 p.0 name none))

module _ (l : Limits) (heard : ℕ → List ℕ) (raw : List ℕ → List ℕ) (lines : List Line)
    (w : WorldState) (h : WorldStands l heard raw lines w) (k : Accounts lines w) where
  pub event_accounts : (e : Event) → Accounted lines (step w e)
  unfolding step IsUnread
  event_accounts (Raw name) = a_raw l heard raw lines w h k name
  event_accounts (Say name words) = a_said l heard raw lines w h k name (request_spelling words)
  event_accounts (Bytes name bytes) = a_said l heard raw lines w h k name bytes
  event_accounts (Client name mode capacity) = a_client l heard raw lines w h k name mode capacity
  event_accounts (Out name count) = a_out l heard raw lines w h k name count
  event_accounts (Serve name count) =
      unread_linked lines w k (link_event.Over name (moves.Serve count)) tt
  event_accounts (Send name count) =
      unread_linked lines w k (link_event.Over name (moves.Send count)) tt
  event_accounts (Recv name count) = a_recv l heard raw lines w h k name count
  event_accounts (Flow name) = a_flow l heard raw lines w h k name
  event_accounts FlowAll = a_first l heard raw lines w h k (length w.links.links) (omega arith)
  event_accounts (Cut name) = unread_linked lines w k (link_event.Over name moves.Cut) tt
  event_accounts (Now moment) = unread_linked lines w k (link_event.Now moment) tt
  event_accounts Tick = unread_linked lines w k link_event.Tick tt
  event_accounts (Ask name q) =
      a_asked l heard raw lines w h k name (call.Ask q) tt (λ e s. ask_called e s q)
  event_accounts (Do name words) =
      a_asked l heard raw lines w h k name (call.Send words) tt (λ e s. send_called e s words)
  event_accounts (Poll name n) =
      a_asked l heard raw lines w h k name (call.Poll n) tt (λ e s. poll_called e s n)
  event_accounts (Show name) =
      a_named l heard raw lines w h k name (λ e. show) show_orderly
      (λ e s link none. unread_quiet link (show s).lines (q_show (Some link) s))
      (λ e s u. gets_show u s)
