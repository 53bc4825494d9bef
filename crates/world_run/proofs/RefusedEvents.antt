-- A refused event leaves the world as it was, and prints nothing: event by event.
use Rattle.std.proofs.Common.{◌≡◌, ◌<◌, ◌≤◌, ℕ, zero, suc, List, [], ◌∷◌, Bool, true, false, cond}
use Rattle.std.proofs.Common.{not, Some, None, Option, length, refl, sym, ap, subst, ◌∙◌, arith}
use Rattle.std.proofs.Common.{inl, length-set, slice_set, ◌+◌, ◌++◌}
use Rattle.std.specs.Prelude.{◌&&◌, nat_le}
use Rattle.std.specs.Option.{is_some}
use Rattle.std.specs.Str.{bytes_eq}
use Rattle.std.proofs.lemmas.List.{set-get_or}
use Rattle.resp_value.specs.Spelling.{request_spelling}
use Rattle.serial_model.specs.declared.history.Entry.TheVariants as entry
use Rattle.serial_model.specs.History.{admitted, is_stopped, state}
use Rattle.serial_model.specs.Steps.{admitting as joining, book_step, stopped}
use Rattle.serial_model.proofs.StepCases.{by_admit}
use Rattle.shared_cache.specs.declared.entry.CacheEntry.{CacheEntry}
use Rattle.shared_cache.specs.declared.log.ClientCall.{ClientCall}
use Rattle.shared_cache.specs.declared.log.ClientCall.TheVariants as call
use Rattle.shared_cache.specs.declared.log.ClientMode.{ClientMode}
use Rattle.shared_cache.specs.declared.log.LogEntry.{LogEntry}
use Rattle.shared_cache.specs.declared.log.Shape.{Shape}
use Rattle.shared_cache.specs.declared.log.Shape.TheVariants.{Single, Pair}
use Rattle.shared_cache.specs.declared.log.Wire.TheVariants.{Main, Side}
use Rattle.shared_cache.specs.Held.{Setup}
use Rattle.shared_cache.specs.Out.{untaken}
use Rattle.shared_cache.specs.Steps.{ClientTurn, answer_ask, client_step}
use Rattle.script_text.specs.declared.event.Event.{Event}
use Rattle.script_text.specs.declared.event.Event.TheVariants.{Raw, Say, Bytes, Client, Out, Serve}
use Rattle.script_text.specs.declared.event.Event.TheVariants.{Send, Recv, Flow, FlowAll, Cut, Ask}
use Rattle.script_text.specs.declared.event.Event.TheVariants.{Do, Poll, Show, Now, Tick}
use Rattle.script_text.specs.declared.line.Line.{Line}
use Rattle.server_links.specs.declared.fault.WorldFault.{WorldFault}
use Rattle.server_links.specs.declared.fault.WorldFault.TheVariants.{NameTaken, NothingThere}
use Rattle.server_links.specs.declared.fault.WorldFault.TheVariants as fault
use Rattle.server_links.specs.declared.link.LinkMove.TheVariants as moves
use Rattle.server_links.specs.Faults.{IsRefusal}
use Rattle.server_links.specs.LinkEvent as link_event
use Rattle.server_links.specs.LinkEvent.{LinkEvent}
use Rattle.server_links.specs.declared.link.Link.{Link}
use Rattle.server_links.specs.LinksState.{LinksState, at_place, fresh_link}
use Rattle.server_links.specs.LinkSteps as links
use Rattle.server_links.specs.LinkSteps.{admitting, over, over_named, place_of, raw_step}
use Rattle.server_links.specs.Moves.{move_of}
use Rattle.server_links.specs.Outcome.{Outcome, and_then, refuses, then_by, within}
use Rattle.server_links.specs.Session.{session_at}
use Rattle.server_links.proofs.Refusals as links_refused
use Rattle.server_links.proofs.LinksStand.{not_equal}
use Rattle.server_links.proofs.NameLists.{none_more}
use Rattle.server_links.proofs.Names.{unplaced}
use Rattle.server_links.proofs.Refusals.{Unrefused, un_flow, un_then}
use Rattle.world_run.specs.WorldState.{EndState, LinkEnd, MemberState, WorldState, client_at}
use Rattle.world_run.specs.WorldState.{end_at, end_of_link, fresh_end, fresh_member, link_on}
use Rattle.world_run.specs.WorldState.{member_at, no_setup}
use Rattle.world_run.specs.Members.{Seat, link_of, seat_at, with_log, with_seat}
use Rattle.world_run.specs.ClientMoves as client
use Rattle.world_run.specs.ClientMoves.{fault_of, hang_up_main, has_ended, lines_of, print, receive}
use Rattle.world_run.specs.ClientMoves.{show, shown, turn}
use Rattle.world_run.specs.WorldHistory.{HaveLinks}
use Rattle.world_run.specs.World.{Stepped, client_does, client_step as make_client, connect}
use Rattle.world_run.specs.World.{end_named, flow_at, flow_first, flow_step, is_served, is_taken}
use Rattle.world_run.specs.World.{join, links_step, named_does, not_served, on_links, out_step}
use Rattle.world_run.specs.World.{recv_step, said_step, setup_by, step}
use Rattle.world_run.proofs.Kept.{among_first, named_kept, two_links}
use Rattle.world_run.proofs.Links.{step_moved}
use Rattle.world_run.proofs.Names.{end_there}
use Rattle.world_run.proofs.Places.{NamesKept, place_kept}
use Rattle.world_run.proofs.Refusals.{HasLinks, Never, NeverTurn, Sure, never_down, never_full}
use Rattle.world_run.proofs.Refusals.{none, sure_flow, sure_out, sure_part, sure_receive, sure_take}

-- where it is refused, nothing was done
abbrev pub Unchanged : {S : Type 0} → S → Outcome S → Type 0
Unchanged s m = (f : WorldFault) → m.fault ≡ Some f → IsRefusal f → (m.state ≡ s) × (m.lines ≡ [])

refused : {S : Type 0} → (s : S) (fault : WorldFault) → Unchanged s (refuses s fault)
refused s fault f e r = (refl, refl)

accepted : {S : Type 0} → (s : S) (m : Outcome S) → Unrefused m → Unchanged s m
unfolding Unrefused
accepted s m n f e r = absurd (n f e r)

un_if : {S : Type 0} → (s : S) (b : Bool) (m n : Outcome S) → Unchanged s m → Unchanged s n
    → Unchanged s (cond b m n)
un_if s b m n p q = grind arith

-- ---- what a client is asked

TurnLeaves : LinkEnd → Seat → ClientCall → ClientTurn → Type 0
TurnLeaves e s c t = (f : WorldFault) → fault_of t.reply ≡ Some f → IsRefusal f
    → (with_log s t.past ≡ s) × (lines_of e s c t.reply ≡ [])

never_ask : (o : Option CacheEntry) (n : ℕ) (past : List LogEntry)
    → NeverTurn (record { reply = answer_ask o n; past = past })
unfolding NeverTurn
never_ask o n past = grind (arith, none)

print_leaves : (ls : List Line) (s : Seat) → Unrefused (print ls s)
unfolding print Unrefused and_then
print_leaves [] s = none
print_leaves (l ∷ ls) s = print_leaves ls s

show_leaves : (s : Seat) → Unchanged s (show s)
unfolding show
show_leaves s = accepted s (print (shown s) s) (print_leaves (shown s) s)

both_right : (a b : Bool) → (a && b) ≡ true → b ≡ true
both_right a b e = grind arith

module _ (d : LinkEnd) where
  leaves_if : (s : Seat) (c : ClientCall) (b : Bool) (x y : ClientTurn) → TurnLeaves d s c x
      → TurnLeaves d s c y → TurnLeaves d s c (cond b x y)
  leaves_if s c b x y p q = grind arith

  leaves_never : (s : Seat) (c : ClientCall) (t : ClientTurn) → NeverTurn t → TurnLeaves d s c t
  unfolding TurnLeaves NeverTurn
  leaves_never s c t n f e r = absurd (n f e r)

  ask_leaves : (q : List (List ℕ)) (s : Seat)
      → TurnLeaves d s (call.Ask q)
      (client_step s.member.state.setup s.member.state.past (call.Ask q))
  unfolding client_step NeverTurn Never
  ask_leaves q s =
      grind (arith, leaves_if, leaves_never, never_down, none, never_full, never_ask)

  send_leaves : (ws : List (List ℕ)) (s : Seat)
      → TurnLeaves d s (call.Send ws)
      (client_step s.member.state.setup s.member.state.past (call.Send ws))
  unfolding client_step NeverTurn Never TurnLeaves
  send_leaves ws s = grind arith

  poll_leaves : (n : ℕ) (s : Seat)
      → TurnLeaves d s (call.Poll n)
      (client_step s.member.state.setup s.member.state.past (call.Poll n))
  unfolding client_step TurnLeaves
  poll_leaves n s = grind arith

  turn_leaves : (c : ClientCall) (s : Seat)
      → TurnLeaves d s c (client_step s.member.state.setup s.member.state.past c)
      → Unchanged s (turn c d s)
  unfolding turn and_then TurnLeaves
  turn_leaves c s n = n

  -- ---- moves of a client

  out_leaves : (count : Option ℕ) (s : Seat) → HasLinks d s → Unchanged s (client.out count d s)
  out_leaves None s h = accepted s (client.out None d s) (sure_out d s h).unrefused
  out_leaves (Some n) s h =
      un_if s (not (has_ended d.wire s)
      && nat_le n (length (untaken s.member.state.setup d.wire s.member.state.past)))
      (client.take_out n d s) (refuses s NothingThere)
      (accepted s (client.take_out n d s) (sure_take d n s h).unrefused) (refused s NothingThere)

  receive_leaves : (count : Option ℕ) (s : Seat) → HasLinks d s → Unchanged s (receive count d s)
  unfolding receive and_then
  receive_leaves None s h = accepted s (receive None d s) (sure_receive d s h).unrefused
  receive_leaves (Some n) s h =
      let there = nat_le n (length (link_of d s).down.bytes) in
      let can = not (has_ended d.wire s) && there in
      let hangs = hang_up_main d.wire (has_ended Main s) in
      elim can as (λ b. can ≡ b → Unchanged s
      (and_then (cond b (client.receive_bytes n d s) (refuses s NothingThere)) hangs)) [
        | true ↦ λ e. accepted s (and_then (client.receive_bytes n d s) hangs)
            (sure_part d n s h (both_right (not (has_ended d.wire s)) there e)).unrefused
        | false ↦ λ e. refused s NothingThere
      ] refl

-- ---- events

event_leaves : (event : LinkEvent) (w : WorldState) → Unchanged w (links_step event w)
unfolding links_step within
event_leaves event w f e r =
    let k = links_refused.faults_none w.links event f e r in (ap (on_links w) k.0, k.1)

seat_same : (at : ℕ) (w : WorldState) → with_seat at w (seat_at at w) ≡ w
seat_same at w =
    let c = (end_at w.ends at).end.client in
    let members = set-get_or w.members c (fresh_member [] 0 0 no_setup) in
    let ends = set-get_or w.ends at (fresh_end 0 Main [] 0) in
    λ i. record { links = w.links; members = members i; ends = ends i; log_max = w.log_max }

client_leaves : (at : ℕ) (move : LinkEnd → Seat → Outcome Seat) (w : WorldState)
    → Unchanged (seat_at at w) (move (end_at w.ends at).end (seat_at at w))
    → Unchanged w (client_does at move w)
unfolding client_does within
client_leaves at move w n f e r =
    let k = n f e r in (ap (with_seat at w) k.0 ∙ seat_same at w, k.1)

named_leaves : (c : Option ℕ) (move : LinkEnd → Seat → Outcome Seat)
    → ((d : LinkEnd) (s : Seat) → Unchanged s (move d s)) → (w : WorldState)
    → Unchanged w (named_does c move w)
named_leaves c move n w = grind (arith, refused, client_leaves)

-- ---- a client is made

nothing : (p : Option ℕ) → is_some p ≡ false → p ≡ None
nothing None e = refl
nothing (Some n) e = absurd (let no : ⊥ = cc in no)

module _ (w : LinksState) (side main : List ℕ) (free : place_of main w ≡ None)
    (apart : side ≡ main → ⊥) where
  -- the server has not stopped for a link that was made
  made_free : is_stopped w.limits w.past ≡ false → let id = admitted w.past + 1 in
      Unrefused (links.step (record {
        limits = w.limits;
        now = w.now;
        past = entry.Admit id ∷ w.past;
        links = w.links ++ fresh_link id side ∷ [];
      }) (link_event.Raw main))
  unfolding links.step Unrefused book_step state
  made_free on =
      let id = admitted w.past + 1 in
      let u : LinksState = record {
        limits = w.limits;
        now = w.now;
        past = entry.Admit id ∷ w.past;
        links = w.links ++ fresh_link id side ∷ [];
      } in
      let still : place_of main u ≡ None =
      none_more (λ (l : Link). bytes_eq l.name main) w.links (fresh_link id side) free
      (not_equal side main apart) in
      subst (λ p. Unrefused (raw_step u main p)) (sym still)
      (subst (λ b. Unrefused (admitting u main (cond b (stopped u.past) (joining u.past)))) (sym on)
      none)

  second_free : (links.step w (link_event.Raw side)).fault ≡ None
      → Unrefused (links.step (links.step w (link_event.Raw side)).state (link_event.Raw main))
  unfolding links.step
  second_free =
      let U : LinksState → Type 0 = λ u. Unrefused (links.step u (link_event.Raw main)) in
      elim (place_of side w) as (λ p. (raw_step w side p).fault ≡ None
      → U (raw_step w side p).state) [
        | Some at ↦ λ e. absurd (let no : ⊥ = cc in no)
        | None ↦ by_admit w.limits w.past
            (λ t. (admitting w side t).fault ≡ None → U (admitting w side t).state)
            (λ e. absurd (let no : ⊥ = cc in no)) (λ on e. made_free on)
      ]

connect_leaves : (shape : Shape) (name : List ℕ) (setup : Setup) (w : WorldState)
    → Unchanged w (connect shape name setup w)
unfolding and_then links_step within Unrefused
connect_leaves Single name setup w =
    let link = link_on Main name in
    let m = links_step (link_event.Raw link) w in
    let n = join name (length w.links.links) (length w.links.links) setup m.state in
    elim m.fault as (λ v. m.fault ≡ v → Unchanged w (then_by v m n)) [
      | Some f ↦ λ is. event_leaves (link_event.Raw link) w
      | None ↦ λ is. accepted w (then_by None m n) none
    ] refl
connect_leaves Pair name setup w =
    let place = length w.links.links in
    let side = link_on Side name in
    let main = link_on Main name in
    let m = links_step (link_event.Raw side) w in
    let n = links_step (link_event.Raw main) m.state in
    let joins = join name (place + 1) place setup in
    elim (is_some (place_of main w.links)) as (λ b. is_some (place_of main w.links) ≡ b
    → Unchanged w (cond b (refuses w NameTaken) (then_by m.fault m (and_then n joins)))) [
      | true ↦ λ is. refused w NameTaken
      | false ↦ λ off. elim m.fault as (λ v. m.fault ≡ v
          → Unchanged w (then_by v m (and_then n joins))) [
            | Some f ↦ λ is. event_leaves (link_event.Raw side) w
            | None ↦ λ is. accepted w (then_by None m (and_then n joins))
                (un_then n joins
                (second_free w.links side main (nothing (place_of main w.links) off)
                (two_links name) is) (λ t. none))
          ] refl
    ] refl

make_leaves : (name : List ℕ) (mode : ClientMode) (capacity : ℕ) (w : WorldState)
    → Unchanged w (make_client name mode capacity w)
unfolding and_then
make_leaves name mode capacity w =
    let setup = setup_by w mode capacity in
    let made = connect mode.shape name setup w in
    un_if w (not (is_served mode)) (refuses w (fault.Refused not_served)) _
    (refused w (fault.Refused not_served))
    (un_if w (is_taken name w) (refuses w NameTaken) _ (refused w NameTaken)
    (connect_leaves mode.shape name setup w))

said_leaves : (c : Option ℕ) (name bytes : List ℕ) (w : WorldState)
    → Unchanged w (said_step c name bytes w)
said_leaves c name bytes w = grind (arith, event_leaves, refused)

-- ---- links flow

has_links : (at : ℕ) (w : WorldState) → HaveLinks w → at < length w.ends
    → HasLinks (end_at w.ends at).end (seat_at at w)
has_links at w h lt = record { own = (h at lt).0; main = (h at lt).1 }

flow_sure : (at : ℕ) (w : WorldState) → HaveLinks w → at < length w.ends
    → Sure (seat_at at w) (client.flow (end_at w.ends at).end (seat_at at w))
flow_sure at w h lt = sure_flow (end_at w.ends at).end (seat_at at w) (has_links at w h lt)

-- a link that is there flows, and each client has its links then
record Flows (w : WorldState) (m : Stepped) : Type 0 where
  unrefused : Unrefused m
  have : HaveLinks m.state
  size : length m.state.links.links ≡ length w.links.links

raw_flows : (place : ℕ) (w : WorldState) → HaveLinks w → place < length w.links.links
    → Flows w (links_step (link_event.Over (at_place w.links.links place).name moves.Flow) w)
unfolding links_step within links.step over Unrefused
raw_flows place w h lt =
    let name = (at_place w.links.links place).name in
    let event = link_event.Over name moves.Flow in
    let m = links.step w.links event in
    let kept : NamesKept w.links m.state = record {
      size = ((named_kept event w.links name (name ∷ []) (among_first name [])).all m.state m.lines
          (inl (refl, refl))).size;
      names = ((step_moved w.links event).all m.state m.lines (inl (refl, refl))).grows.names;
    } in
    record {
      unrefused = elim (place_of name w.links) as (λ p. place_of name w.links ≡ p
          → Unrefused (over_named p (move_of event) w.links)) [
            | None ↦ λ free. absurd (unplaced name w.links free place lt refl)
            | Some at ↦ λ is. un_flow (session_at at w.links)
          ] refl;
      have = λ at below.
          let e = (end_at w.ends at).end in
          let c = client_at w at in (
            place_kept e.link w.links m.state e.place kept (h at below).0,
            place_kept (link_on Main c.name) w.links m.state c.main kept (h at below).1,
          );
      size = kept.size;
    }

ends_keep : (es : List EndState) (at i : ℕ) (d : EndState) → d.end ≡ (end_at es at).end
    → (end_at (slice_set es at d) i).end ≡ (end_at es i).end
ends_keep [] at i d same = refl
ends_keep (x ∷ es) zero zero d same = same
ends_keep (x ∷ es) zero (suc i) d same = refl
ends_keep (x ∷ es) (suc at) zero d same = refl
ends_keep (x ∷ es) (suc at) (suc i) d same = ends_keep es at i d same

members_keep : (ms : List MemberState) (at i : ℕ) (m : MemberState)
    → m.name ≡ (member_at ms at).name → m.main ≡ (member_at ms at).main
    → ((member_at (slice_set ms at m) i).name ≡ (member_at ms i).name)
    × ((member_at (slice_set ms at m) i).main ≡ (member_at ms i).main)
members_keep [] at i m name main = (refl, refl)
members_keep (x ∷ ms) zero zero m name main = (name, main)
members_keep (x ∷ ms) zero (suc i) m name main = (refl, refl)
members_keep (x ∷ ms) (suc at) zero m name main = (refl, refl)
members_keep (x ∷ ms) (suc at) (suc i) m name main = members_keep ms at i m name main

client_flows : (at : ℕ) (w : WorldState) → HaveLinks w → at < length w.ends
    → Flows w (client_does at client.flow w)
unfolding client_does within Unrefused
client_flows at w h lt =
    let e = (end_at w.ends at).end in
    let k = flow_sure at w h lt in
    let t = (client.flow e (seat_at at w)).state in
    let end : EndState = record { end = e; reader = t.reader } in
    let members = slice_set w.members e.client t.member in
    let ends = slice_set w.ends at end in
    record {
      unrefused = k.unrefused;
      have = λ i below.
          let old : i < length w.ends = omega (arith, below, length-set w.ends at end) in
          let d = (end_at w.ends i).end in
          let c = member_at w.members d.client in
          let same = members_keep w.members e.client d.client t.member k.name k.main in
          subst (λ (x : LinkEnd). (place_of x.link t.links ≡ Some x.place)
          × (place_of (link_on Main (member_at members x.client).name) t.links
          ≡ Some (member_at members x.client).main)) (sym (ends_keep w.ends at i end refl)) (
            place_kept d.link w.links t.links d.place k.names (h i old).0,
            ap (λ n. place_of (link_on Main n) t.links) same.0
                ∙ place_kept (link_on Main c.name) w.links t.links c.main k.names (h i old).1
                ∙ ap Some (sym same.1),
          );
      size = k.names.size;
    }

place_flows : (place : ℕ) (w : WorldState) → HaveLinks w → place < length w.links.links
    → Flows w (flow_at place w)
place_flows place w h lt =
    let name = (at_place w.links.links place).name in
    elim (end_of_link name w.ends) as (λ c. end_of_link name w.ends ≡ c
    → Flows w (flow_step c name w)) [
      | None ↦ λ free. raw_flows place w h lt
      | Some at ↦ λ is. client_flows at w h (end_there name w.ends at is).0
    ] refl

first_flows : (n : ℕ) (w : WorldState) → HaveLinks w → n ≤ length w.links.links
    → Flows w (flow_first n w)
unfolding flow_first and_then Unrefused
first_flows zero w h le = record { unrefused = none; have = h; size = refl }
first_flows (suc n) w h le =
    let m = flow_first n w in
    let k = first_flows n w h (omega (arith, le)) in
    grind (arith, place_flows)

-- ---- an event

flow_leaves : (name : List ℕ) (w : WorldState) → HaveLinks w
    → Unchanged w (flow_step (end_of_link name w.ends) name w)
flow_leaves name w h =
    elim (end_of_link name w.ends) as (λ c. end_of_link name w.ends ≡ c
    → Unchanged w (flow_step c name w)) [
      | None ↦ λ free. event_leaves (link_event.Over name moves.Flow) w
      | Some at ↦ λ is. client_leaves at client.flow w
          (accepted (seat_at at w) (client.flow (end_at w.ends at).end (seat_at at w))
          (flow_sure at w h (end_there name w.ends at is).0).unrefused)
    ] refl

outs_leave : (name : List ℕ) (count : Option ℕ) (w : WorldState) → HaveLinks w
    → Unchanged w (out_step (end_of_link name w.ends) name count w)
outs_leave name count w h =
    elim (end_of_link name w.ends) as (λ c. end_of_link name w.ends ≡ c
    → Unchanged w (out_step c name count w)) [
      | None ↦ λ free. grind arith
      | Some at ↦ λ is. client_leaves at (client.out count) w
          (out_leaves (end_at w.ends at).end count (seat_at at w)
          (has_links at w h (end_there name w.ends at is).0))
    ] refl

recvs_leave : (name : List ℕ) (count : Option ℕ) (w : WorldState) → HaveLinks w
    → Unchanged w (recv_step (end_of_link name w.ends) name count w)
recvs_leave name count w h =
    elim (end_of_link name w.ends) as (λ c. end_of_link name w.ends ≡ c
    → Unchanged w (recv_step c name count w)) [
      | None ↦ λ free. event_leaves (link_event.Over name (moves.Recv count)) w
      | Some at ↦ λ is. client_leaves at (client.receive count) w
          (receive_leaves (end_at w.ends at).end count (seat_at at w)
          (has_links at w h (end_there name w.ends at is).0))
    ] refl

pub unchanged : (e : Event) (w : WorldState) → HaveLinks w → Unchanged w (step w e)
unfolding step
unchanged (Raw name) w h =
    un_if w (is_taken name w) (refuses w NameTaken) (links_step (link_event.Raw name) w)
    (refused w NameTaken) (event_leaves (link_event.Raw name) w)
unchanged (Say name words) w h =
    said_leaves (end_of_link name w.ends) name (request_spelling words) w
unchanged (Bytes name bytes) w h = said_leaves (end_of_link name w.ends) name bytes w
unchanged (Client name mode capacity) w h = make_leaves name mode capacity w
unchanged (Out name count) w h = outs_leave name count w h
unchanged (Serve name count) w h = event_leaves (link_event.Over name (moves.Serve count)) w
unchanged (Send name count) w h = event_leaves (link_event.Over name (moves.Send count)) w
unchanged (Recv name count) w h = recvs_leave name count w h
unchanged (Flow name) w h = flow_leaves name w h
unchanged FlowAll w h =
    let m = flow_first (length w.links.links) w in
    accepted w m (first_flows (length w.links.links) w h (omega arith)).unrefused
unchanged (Cut name) w h = event_leaves (link_event.Over name moves.Cut) w
unchanged (Now moment) w h = event_leaves (link_event.Now moment) w
unchanged Tick w h = event_leaves link_event.Tick w
unchanged (Ask name q) w h =
    named_leaves (end_named name w) (turn (call.Ask q))
    (λ d s. turn_leaves d (call.Ask q) s (ask_leaves d q s)) w
unchanged (Do name words) w h =
    named_leaves (end_named name w) (turn (call.Send words))
    (λ d s. turn_leaves d (call.Send words) s (send_leaves d words s)) w
unchanged (Poll name n) w h =
    named_leaves (end_named name w) (turn (call.Poll n))
    (λ d s. turn_leaves d (call.Poll n) s (poll_leaves d n s)) w
unchanged (Show name) w h = named_leaves (end_named name w) (λ d. show) (λ d. show_leaves) w
