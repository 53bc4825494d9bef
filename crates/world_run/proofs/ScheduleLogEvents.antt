-- What an event of a world does to the logs of its clients, and what it prints of them.
use Rattle.std.proofs.Common.{◌≡◌, ◌≤◌, ◌<◌, ◌+◌, ℕ, zero, suc, List, [], ◌∷◌, ◌++◌, Bool, true}
use Rattle.std.proofs.Common.{false}
use Rattle.std.proofs.Common.{cond, not, Some, None, Option, length, refl, sym, ap, subst, ◌∙◌}
use Rattle.std.proofs.Common.{arith, append-nil, inr, length-append, length-set, slice_set}
use Rattle.std.specs.Prelude.{option_to_list}
use Rattle.std.specs.Option.{is_some}
use Rattle.std.proofs.lemmas.Grind.{get_or-set_at}
use Rattle.std.proofs.lemmas.List.{get_or-set_other, get_or_push, get_or_append_left}
use Rattle.resp_value.specs.Spelling.{request_spelling}
use Rattle.shared_cache.specs.declared.log.ClientCall.{ClientCall}
use Rattle.shared_cache.specs.declared.log.ClientCall.TheVariants as call
use Rattle.shared_cache.specs.declared.log.ClientMode.{ClientMode}
use Rattle.shared_cache.specs.declared.log.LogEntry.{LogEntry}
use Rattle.shared_cache.specs.declared.log.Shape.{Shape}
use Rattle.shared_cache.specs.declared.log.Shape.TheVariants.{Single, Pair}
use Rattle.shared_cache.specs.declared.log.Wire.TheVariants.{Main, Side}
use Rattle.shared_cache.specs.Held.{Setup}
use Rattle.shared_cache.specs.Steps.{client_step}
use Rattle.script_text.specs.declared.event.Event.{Event}
use Rattle.script_text.specs.declared.event.Event.TheVariants.{Raw, Say, Bytes, Client, Out, Serve}
use Rattle.script_text.specs.declared.event.Event.TheVariants.{Send, Recv, Flow, FlowAll, Cut, Ask}
use Rattle.script_text.specs.declared.event.Event.TheVariants.{Do, Poll, Show, Now, Tick}
use Rattle.script_text.specs.declared.line.Line.{Line}
use Rattle.server_links.specs.declared.fault.WorldFault.{WorldFault}
use Rattle.server_links.specs.declared.fault.WorldFault.TheVariants.{NameTaken, Refused}
use Rattle.server_links.specs.declared.link.LinkMove.TheVariants as moves
use Rattle.server_links.specs.LinkEvent as link_event
use Rattle.server_links.specs.LinkEvent.{LinkEvent}
use Rattle.server_links.specs.LinksState.{at_place}
use Rattle.server_links.specs.LinkSteps.{place_of}
use Rattle.server_links.specs.Outcome.{Outcome, and_then, does, refuses, stays, then_by, within}
use Rattle.server_links.proofs.LinksStand.{not_equal}
use Rattle.server_links.proofs.NameLists.{nowhere}
use Rattle.server_links.proofs.Names.{names_itself}
use Rattle.world_run.specs.WorldState.{HaveClients, LinkEnd, MemberState, WorldState, client_at}
use Rattle.world_run.specs.WorldState.{client_named, end_at, end_of_link, fresh_member, link_on}
use Rattle.world_run.specs.WorldState.{member_at, no_setup}
use Rattle.world_run.specs.Members.{Seat, log_of, seat_at, setup_of}
use Rattle.world_run.specs.ClientMoves as client
use Rattle.world_run.specs.ClientMoves.{show, turn}
use Rattle.world_run.specs.ScheduleLog.{Called, Notes, answer_by, answerer, answers_of}
use Rattle.world_run.specs.ScheduleLog.{call_of, if_named}
use Rattle.world_run.specs.World.{Stepped, client_does, connect, end_named, flow_at, flow_first}
use Rattle.world_run.specs.World.{flow_step, is_served, is_taken, links_step, named_does}
use Rattle.world_run.specs.World.{not_served, out_step, raw_out, recv_step, said_step, setup_by}
use Rattle.world_run.specs.World.{step}
use Rattle.world_run.specs.World as world
use Rattle.world_run.proofs.Names.{end_named_there}
use Rattle.world_run.proofs.ScheduleLogLines.{Quiets, both, no_answers, q_flow, q_if, q_next}
use Rattle.world_run.proofs.ScheduleLogLines.{q_out, q_receive, q_show, q_step}
use Rattle.world_run.proofs.ScheduleLogMoves.{Answered, Calm, Calms, ask_called, c_flow, c_out}
use Rattle.world_run.proofs.ScheduleLogMoves.{c_receive, c_show, calm_both, calm_same}
use Rattle.world_run.proofs.ScheduleLogMoves.{poll_called, send_called, turn_called, turn_name}
use Rattle.world_run.proofs.Seats.{by_place}

-- no client of the world has this name
abbrev pub Nobody : WorldState → List ℕ → Type 0
Nobody w name = (i : ℕ) → i < length w.members → (member_at w.members i).name ≡ name → ⊥

-- What an outcome leaves of the clients: each has its name, and its log and the lines are those of
-- its call or of none; a client that is new has no log, and its name was nobody's.
pub record Noting (w : WorldState) (calls : List ℕ → Option ClientCall) (m : Stepped) : Type 0
  where
    pub grows : length w.members ≤ length m.state.members
    pub named : (i : ℕ) → i < length w.members
        → (member_at m.state.members i).name ≡ (member_at w.members i).name
    pub notes : (i : ℕ) → i < length w.members → let c = member_at w.members i in
        Notes (calls c.name) c.state.setup c.name c.state.past
        (member_at m.state.members i).state.past m.lines
    pub new : (i : ℕ) → length w.members ≤ i → i < length m.state.members →
        let c = member_at m.state.members i in
        (c.state.past ≡ []) × Nobody w c.name
    pub others : (name : List ℕ) → Nobody w name
        → (calls name ≡ None) × (answers_of name m.lines ≡ [])

-- ---- no call

-- the clients are the same ones, nothing is added to a log that is a call's, and none answers
pub record Calmly (w : WorldState) (m : Stepped) : Type 0 where
  pub size : length m.state.members ≡ length w.members
  pub each : (i : ℕ) → i < length w.members
      → Calm (member_at w.members i) (member_at m.state.members i)
  pub quiet : Quiets None m

calm_notes : (w : WorldState) (calls : List ℕ → Option ClientCall) (m : Stepped)
    → ((name : List ℕ) → calls name ≡ None) → Calmly w m → Noting w calls m
calm_notes w calls m none k = record {
  grows = omega (arith, k.size);
  named = λ i lt. (k.each i lt).name;
  notes = λ i lt.
      let c = member_at w.members i in
      let e = k.each i lt in
      subst (λ o. Notes o c.state.setup c.name c.state.past
      (member_at m.state.members i).state.past m.lines) (sym (none c.name))
      (record {
        entries = e.entries;
        grows = e.grows;
        no_call = e.no_call;
        no_answer = no_answers c.name None m.lines k.quiet;
      });
  new = λ i le lt. absurd (omega (arith, le, lt, k.size));
  others = λ name free. (none name, no_answers name None m.lines k.quiet);
}

calmly_same : (w : WorldState) (m : Stepped) → m.state.members ≡ w.members → Quiets None m
    → Calmly w m
calmly_same w m same q = record {
  size = ap length same;
  each = λ i lt. subst (λ ms. Calm (member_at w.members i) (member_at ms i)) (sym same)
      (calm_same (member_at w.members i));
  quiet = q;
}

calmly_then : (w : WorldState) (m : Stepped) (next : WorldState → Stepped) → Calmly w m
    → ((v : WorldState) → Calmly v (next v)) → Calmly w (and_then m next)
unfolding and_then
calmly_then w m next a g =
    elim m.fault as (λ f. Calmly w (then_by f m (next m.state))) [
      | Some f ↦ a
      | None ↦
          let b = g m.state in
          record {
            size = b.size ∙ a.size;
            each = λ i lt.
                calm_both (member_at w.members i) (member_at m.state.members i)
                (member_at (next m.state).state.members i) (a.each i lt)
                (b.each i (omega (arith, lt, a.size)));
            quiet = both None m.lines (next m.state).lines a.quiet b.quiet;
          }
    ]

c_refused : (w : WorldState) (f : WorldFault) → Calmly w (refuses w f)
c_refused w f = calmly_same w (refuses w f) refl tt

c_stays : (w : WorldState) → Calmly w (stays w)
c_stays w = calmly_same w (stays w) refl tt

c_if : (w : WorldState) (b : Bool) (m n : Stepped) → Calmly w m → Calmly w n
    → Calmly w (cond b m n)
c_if w e m n a b = grind arith

c_event : (event : LinkEvent) (w : WorldState) → Calmly w (links_step event w)
unfolding links_step within
c_event event w = calmly_same w (links_step event w) refl (q_step None event w.links (inr tt))

-- the client at a place is as this, and the others as they were
module _ (at : ℕ) (members : List MemberState) (new : MemberState) where
  pub mine : (i : ℕ) → i ≡ at → at < length members
      → member_at (slice_set members at new) i ≡ new
  mine i e below = get_or-set_at members at i new (fresh_member [] 0 0 no_setup) e below

  pub theirs : (i : ℕ) → (i ≡ at → ⊥)
      → member_at (slice_set members at new) i ≡ member_at members i
  theirs i n = get_or-set_other members at i new (fresh_member [] 0 0 no_setup) n

c_client : (at : ℕ) (move : LinkEnd → Seat → Outcome Seat)
    → ((e : LinkEnd) (s : Seat) → Calms s (move e s))
    → ((e : LinkEnd) (s : Seat) → Quiets None (move e s)) → (w : WorldState)
    → Calmly w (client_does at move w)
unfolding client_does within
c_client at move calm quiet w =
    let e = (end_at w.ends at).end in
    let c = e.client in
    let s = seat_at at w in
    let new = (move e s).state.member in
    record {
      size = length-set w.members c new;
      each = λ i lt.
          by_place (Calm (member_at w.members i) (member_at (slice_set w.members c new) i)) i c
          (λ is. subst (λ n. Calm (member_at w.members i) n)
          (sym (mine c w.members new i is (subst (λ k. k < length w.members) is lt)))
          (subst (λ k. Calm (member_at w.members k) new) (sym is) (calm e s)))
          (λ n. subst (λ m. Calm (member_at w.members i) m) (sym (theirs c w.members new i n))
          (calm_same (member_at w.members i)));
      quiet = quiet e s;
    }

c_flows : (c : Option ℕ) (name : List ℕ) (w : WorldState) → Calmly w (flow_step c name w)
c_flows None name w = c_event (link_event.Over name moves.Flow) w
c_flows (Some at) name w = c_client at client.flow c_flow (λ e s. q_flow None e s tt) w

c_first : (n : ℕ) (w : WorldState) → Calmly w (flow_first n w)
unfolding flow_first
c_first zero w = c_stays w
c_first (suc n) w =
    calmly_then w (flow_first n w) (flow_at n) (c_first n w)
    (λ v. let name = (at_place v.links.links n).name in
    c_flows (end_of_link name v.ends) name v)

c_raw_out : (p count : Option ℕ) (w : WorldState) → Calmly w (raw_out p count w)
c_raw_out p count w = grind (arith, c_refused, c_stays)

c_sends : (c : Option ℕ) (name : List ℕ) (count : Option ℕ) (w : WorldState)
    → Calmly w (out_step c name count w)
c_sends None name count w = c_raw_out (place_of name w.links) count w
c_sends (Some at) name count w =
    c_client at (client.out count) (λ e. c_out e count) (λ e. q_out None e count) w

c_reads : (c : Option ℕ) (name : List ℕ) (count : Option ℕ) (w : WorldState)
    → Calmly w (recv_step c name count w)
c_reads None name count w = c_event (link_event.Over name (moves.Recv count)) w
c_reads (Some at) name count w =
    c_client at (client.receive count) (λ e. c_receive e count)
    (λ e s. q_receive None e count s tt) w

c_says : (c : Option ℕ) (name bytes : List ℕ) (w : WorldState) → Calmly w (said_step c name bytes w)
c_says None name bytes w = c_event (link_event.Put name bytes) w
c_says (Some at) name bytes w = c_refused w _

c_shows : (c : Option ℕ) (w : WorldState) → Calmly w (named_does c (λ e. show) w)
c_shows None w = c_refused w _
c_shows (Some at) w = c_client at (λ e. show) (λ e. c_show) (λ e. q_show None) w

-- ---- a call

module _ (s : Setup) (name : List ℕ) (log new : List LogEntry) (c : ClientCall) (lines : List Line)
    (k : Called s name log new c lines) where
  answers_are : (other : List ℕ)
      → answers_of other lines ≡ option_to_list (if_named name other k.answer)
  answers_are other =
      ap (answers_of other) k.printed
      ∙ append-nil (option_to_list (answer_by other (answerer k.answer) k.answer))
      ∙ ap (λ o. option_to_list (answer_by other o k.answer)) k.by

  pub own_answer : answers_of name lines ≡ k.answer ∷ []
  own_answer =
      answers_are name
      ∙ ap (λ b. option_to_list (cond b (Some k.answer) None)) (names_itself name name refl)

  pub no_others : (other : List ℕ) → (name ≡ other → ⊥) → answers_of other lines ≡ []
  no_others other n =
      answers_are other
      ∙ ap (λ b. option_to_list (cond b (Some k.answer) None)) (not_equal name other n)

-- clients are apart by their names
abbrev pub NamesApart : WorldState → Type 0
NamesApart w =
    (i j : ℕ) → i < length w.members → j < length w.members
    → (member_at w.members j).name ≡ (member_at w.members i).name → j ≡ i

module _ (w : WorldState) (apart : NamesApart w) (clients : HaveClients w)
    (name : List ℕ) (c : ClientCall)
    (called : (e : LinkEnd) (s : Seat)
    → Answered c e s (client_step (setup_of s) (log_of s) c)) where
  called_at : (k : ℕ) → k < length w.ends → (client_at w k).name ≡ name
      → (client_does k (turn c) w).fault ≡ None
      → Noting w (λ n. if_named name n c) (client_does k (turn c) w)
  unfolding client_does within
  called_at k lt_k is none =
      let e = (end_at w.ends k).end in
      let at = e.client in
      let below : at < length w.members = (clients k lt_k).0 in
      let s = seat_at k w in
      let f = setup_of s in
      let t = turn c e s in
      let new = t.state.member in
      let members = slice_set w.members at new in
      let past : ℕ → List LogEntry = λ i. (member_at members i).state.past in
      let said = turn_called c e s (called e s) none in
      let other : (n : List ℕ) → (name ≡ n → ⊥)
      → (if_named name n c ≡ None) × (answers_of n t.lines ≡ []) = λ n differ. (
        ap (λ b. cond b (Some c) None) (not_equal name n differ),
        no_others f s.member.name (log_of s) new.state.past c t.lines said n
            (λ same. differ (sym is ∙ same)),
      ) in
      let P : ℕ → Type 0 = λ i. (let m = member_at w.members i in
      Notes (if_named name m.name c) m.state.setup m.name m.state.past (past i) t.lines) in
      record {
        grows = omega (arith, length-set w.members at new);
        named = λ i lt.
            by_place ((member_at members i).name ≡ (member_at w.members i).name) i at
            (λ here. ap (λ (m : MemberState). m.name)
            (mine at w.members new i here (subst (λ j. j < length w.members) here lt))
            ∙ turn_name c e s ∙ ap (λ j. (member_at w.members j).name) (sym here))
            (λ n. ap (λ (m : MemberState). m.name) (theirs at w.members new i n));
        notes = λ i lt.
            by_place (P i) i at
            (λ here. subst P (sym here)
            (subst (λ (x : MemberState). Notes (if_named name s.member.name c) f s.member.name
            (log_of s) x.state.past t.lines) (sym (mine at w.members new at refl below))
            (subst (λ b. Notes (cond b (Some c) None) f s.member.name (log_of s) new.state.past
            t.lines) (sym (names_itself name s.member.name (sym is))) said)))
            (λ n.
            let m = member_at w.members i in
            let differ : name ≡ m.name → ⊥ = λ same. n (apart at i below lt (sym same ∙ sym is)) in
            subst (λ o. Notes o m.state.setup m.name m.state.past (past i) t.lines)
            (sym (other m.name differ).0) (record {
              entries = [];
              grows = ap (λ (x : MemberState). x.state.past) (theirs at w.members new i n);
              no_call = refl;
              no_answer = (other m.name differ).1;
            }));
        new = λ i le lt. absurd (omega (arith, le, lt, length-set w.members at new));
        others = λ n free. other n (λ same. free at below (is ∙ same));
      }

  pub call_notes : (named_does (end_named name w) (turn c) w).fault ≡ None
      → Noting w (λ n. if_named name n c) (named_does (end_named name w) (turn c) w)
  call_notes none =
      elim (end_named name w) as (λ p. end_named name w ≡ p
      → (named_does p (turn c) w).fault ≡ None
      → Noting w (λ n. if_named name n c) (named_does p (turn c) w)) [
        | None ↦ λ is f. absurd (let no : ⊥ = cc in no)
        | Some at ↦ λ is f.
            let there = end_named_there name w at is in
            called_at at there.0 there.2 f
      ] refl none

-- ---- a client more

nobody_named : (name : List ℕ) (w : WorldState) → client_named name w.members ≡ None
    → Nobody w name
nobody_named name w none i lt same = grind (arith, nowhere, names_itself)

joined_notes : (w : WorldState) (m : Stepped) (c : MemberState)
    → m.state.members ≡ w.members ++ c ∷ [] → c.state.past ≡ [] → Nobody w c.name
    → Quiets None m → Noting w (λ n. None) m
joined_notes w m c is empty free quiet =
    let none : MemberState = fresh_member [] 0 0 no_setup in
    let size : length m.state.members ≡ length w.members + 1 =
    ap length is ∙ length-append w.members (c ∷ []) in
    let old : (i : ℕ) → i < length w.members
    → member_at m.state.members i ≡ member_at w.members i =
    λ i lt. ap (λ ms. member_at ms i) is ∙ get_or_append_left w.members (c ∷ []) none i lt in
    let last : (i : ℕ) → length w.members ≤ i → i < length m.state.members
    → c ≡ member_at m.state.members i =
    λ i le lt. sym (ap (λ ms. member_at ms i) is
    ∙ get_or_push w.members c none i (omega (arith, le, lt, size))) in
    record {
      grows = omega (arith, size);
      named = λ i lt. ap (λ (x : MemberState). x.name) (old i lt);
      notes = λ i lt. record {
        entries = [];
        grows = ap (λ (x : MemberState). x.state.past) (old i lt);
        no_call = refl;
        no_answer = no_answers (member_at w.members i).name None m.lines quiet;
      };
      new = λ i le lt.
          subst (λ (x : MemberState). (x.state.past ≡ []) × Nobody w x.name) (last i le lt)
          (empty, free);
      others = λ name none. (refl, no_answers name None m.lines quiet);
    }

-- its links are made, and it joins
module _ (name : List ℕ) (setup : Setup) where
  q_connect : (shape : Shape) (w : WorldState) → Quiets None (connect shape name setup w)
  q_connect Single w =
      q_next None (links_step (link_event.Raw (link_on Main name)) w) _
      (c_event (link_event.Raw (link_on Main name)) w).quiet (λ u. tt)
  q_connect Pair w =
      q_if None (is_some (place_of (link_on Main name) w.links)) (refuses w NameTaken) _ tt
      (q_next None (links_step (link_event.Raw (link_on Side name)) w) _
      (c_event (link_event.Raw (link_on Side name)) w).quiet
      (λ v. q_next None (links_step (link_event.Raw (link_on Main name)) v) _
      (c_event (link_event.Raw (link_on Main name)) v).quiet (λ u. tt)))

  connected : (shape : Shape) (w : WorldState) → (connect shape name setup w).fault ≡ None
      → (main : ℕ) × (side : ℕ) × ((connect shape name setup w).state.members
      ≡ w.members ++ fresh_member name main side setup ∷ [])
  unfolding and_then links_step within
  connected Single w none =
      let place = length w.links.links in (place, place, grind arith)
  connected Pair w none =
      let place = length w.links.links in (place + 1, place, grind arith)

module _ (name : List ℕ) (mode : ClientMode) (capacity : ℕ) (w : WorldState) where
  abbrev pub made : Stepped
  made =
      and_then (does w w []) (connect mode.shape name (setup_by w mode capacity))

  q_made : Quiets None made
  q_made = q_next None (does w w []) _ tt (q_connect name (setup_by w mode capacity) mode.shape)

  made_members : made.fault ≡ None → (main : ℕ) × (side : ℕ) × (made.state.members
      ≡ w.members ++ fresh_member name main side (setup_by w mode capacity) ∷ [])
  unfolding and_then
  made_members none = connected name (setup_by w mode capacity) mode.shape w none

  untaken : is_taken name w ≡ false → client_named name w.members ≡ None
  untaken e = grind arith

  client_notes : (world.client_step name mode capacity w).fault ≡ None
      → Noting w (λ n. None) (world.client_step name mode capacity w)
  client_notes none =
      elim (is_served mode) as (λ b.
      (cond (not b) (refuses w (Refused not_served))
      (cond (is_taken name w) (refuses w NameTaken) made)).fault ≡ None
      → Noting w (λ n. None) (cond (not b) (refuses w (Refused not_served))
      (cond (is_taken name w) (refuses w NameTaken) made))) [
        | false ↦ λ f. absurd (let no : ⊥ = cc in no)
        | true ↦ elim (is_taken name w) as (λ b. is_taken name w ≡ b
            → (cond b (refuses w NameTaken) made).fault ≡ None
            → Noting w (λ n. None) (cond b (refuses w NameTaken) made)) [
              | true ↦ λ e f. absurd (let no : ⊥ = cc in no)
              | false ↦ λ e f.
                  let all = made_members f in
                  joined_notes w made
                  (fresh_member name all.0 all.1 (setup_by w mode capacity)) all.2 refl
                  (nobody_named name w (untaken e)) q_made
            ] refl
      ] none

-- ---- an event

module _ (w : WorldState) (apart : NamesApart w) (clients : HaveClients w) where
  none_called : (e : Event) → ((name : List ℕ) → call_of name e ≡ None) → Calmly w (step w e)
      → Noting w (λ n. call_of n e) (step w e)
  none_called e none calm = calm_notes w (λ n. call_of n e) (step w e) none calm

  c_raw : (name : List ℕ) → Calmly w (world.raw_step name w)
  c_raw name = c_if w (is_taken name w) _ _ (c_refused w NameTaken)
      (c_event (link_event.Raw name) w)

  pub event_notes : (e : Event) → (step w e).fault ≡ None
      → Noting w (λ n. call_of n e) (step w e)
  unfolding step
  event_notes (Raw name) none = none_called (Raw name) (λ n. refl) (c_raw name)
  event_notes (Say name words) none =
      none_called (Say name words) (λ n. refl)
      (c_says (end_of_link name w.ends) name (request_spelling words) w)
  event_notes (Bytes name bytes) none =
      none_called (Bytes name bytes) (λ n. refl)
      (c_says (end_of_link name w.ends) name bytes w)
  event_notes (Client name mode capacity) none = client_notes name mode capacity w none
  event_notes (Out name count) none =
      none_called (Out name count) (λ n. refl)
      (c_sends (end_of_link name w.ends) name count w)
  event_notes (Serve name count) none =
      none_called (Serve name count) (λ n. refl)
      (c_event (link_event.Over name (moves.Serve count)) w)
  event_notes (Send name count) none =
      none_called (Send name count) (λ n. refl)
      (c_event (link_event.Over name (moves.Send count)) w)
  event_notes (Recv name count) none =
      none_called (Recv name count) (λ n. refl)
      (c_reads (end_of_link name w.ends) name count w)
  event_notes (Flow name) none =
      none_called (Flow name) (λ n. refl) (c_flows (end_of_link name w.ends) name w)
  event_notes FlowAll none =
      none_called FlowAll (λ n. refl) (c_first (length w.links.links) w)
  event_notes (Cut name) none =
      none_called (Cut name) (λ n. refl) (c_event (link_event.Over name moves.Cut) w)
  event_notes (Now moment) none =
      none_called (Now moment) (λ n. refl) (c_event (link_event.Now moment) w)
  event_notes Tick none = none_called Tick (λ n. refl) (c_event link_event.Tick w)
  event_notes (Ask name q) none =
      call_notes w apart clients name (call.Ask q) (λ e s. ask_called e s q) none
  event_notes (Do name words) none =
      call_notes w apart clients name (call.Send words) (λ e s. send_called e s words) none
  event_notes (Poll name n) none =
      call_notes w apart clients name (call.Poll n) (λ e s. poll_called e s n) none
  event_notes (Show name) none =
      none_called (Show name) (λ n. refl) (c_shows (end_named name w) w)
