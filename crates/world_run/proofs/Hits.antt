-- Each answer from a cache that an event prints stands at its point.
use Rattle.std.proofs.Common.{◌≡◌, ℕ, zero, suc, List, [], ◌∷◌, Bool, true, false, cond, Some, None}
use Rattle.std.proofs.Common.{Option, inl, inr, length, refl, sym, subst, arith}
use Rattle.std.proofs.lemmas.Bool.{cases_lt}
use Rattle.std.proofs.lemmas.List.{get_or_past}
use Rattle.command_words.specs.Queries.{same_query}
use Rattle.shared_cache.specs.declared.entry.CacheEntry.{CacheEntry}
use Rattle.shared_cache.specs.declared.log.ClientCall.TheVariants as call
use Rattle.shared_cache.specs.declared.log.Shape.{Shape}
use Rattle.shared_cache.specs.declared.log.Shape.TheVariants.{Pair, Single}
use Rattle.shared_cache.specs.Held.{Setup, held, held_for}
use Rattle.shared_cache.specs.Laws.{Every}
use Rattle.shared_cache.specs.Steps.{ClientTurn, answer_ask, client_step}
use Rattle.currency.specs.Current.{HasPoint, IsCurrent, point}
use Rattle.script_text.specs.declared.event.Event.{Event}
use Rattle.script_text.specs.declared.event.Event.TheVariants.{Raw, Say, Bytes, Client, Out, Serve}
use Rattle.script_text.specs.declared.event.Event.TheVariants.{Send, Recv, Flow, FlowAll, Cut, Ask}
use Rattle.script_text.specs.declared.event.Event.TheVariants.{Do, Poll, Show, Now, Tick}
use Rattle.script_text.specs.declared.line.Line.{Line}
use Rattle.server_links.specs.declared.link.LinkMove.TheVariants as moves
use Rattle.server_links.specs.LinkEvent as link_event
use Rattle.server_links.specs.LinkEvent.{LinkEvent}
use Rattle.server_links.specs.LinkSteps.{place_of}
use Rattle.server_links.specs.LinkSteps as links
use Rattle.server_links.specs.Outcome.{Outcome, and_then, within}
use Rattle.world_run.specs.WorldState.{LinkEnd, MemberState, WorldState, client_at, end_at}
use Rattle.world_run.specs.WorldState.{end_of_link, fresh_member, member_at, no_setup}
use Rattle.world_run.specs.Members.{Seat, client_of, seat_at, with_seat}
use Rattle.world_run.specs.ClientMoves.{ask_lines, flow, out, point_at, ran_at, receive, show, turn}
use Rattle.world_run.specs.WorldHistory.{AllServiced, HitStands, HoldsCurrent, IsHit}
use Rattle.world_run.specs.World.{client_does, connect, end_named, flow_first, flow_step}
use Rattle.world_run.specs.World.{links_step, named_does, on_links, out_step, raw_out, recv_step}
use Rattle.world_run.specs.World.{step}
use Rattle.world_run.proofs.Below.{same_words}
use Rattle.world_run.proofs.HitLines.{Hitless, NoHit, NoHits, h_flows, h_if, h_out, h_received}
use Rattle.world_run.proofs.HitLines.{h_show, h_step, h_then, h_turn, h_within}
use Rattle.world_run.proofs.Names.{end_named_there}
use Rattle.world_run.proofs.Wires.{among}

-- ---- what is held of a query

record IsHeld (P : CacheEntry → Type 0) (q : List (List ℕ)) (h : CacheEntry) : Type 0 where
  is : h.query ≡ q
  has : P h

held_found : (P : CacheEntry → Type 0) (q : List (List ℕ)) (hs : List CacheEntry) (h : CacheEntry)
    → Every P hs → held_for q hs ≡ Some h → IsHeld P q h
held_found P q [] h a e = absurd (let no : ⊥ = cc in no)
held_found P q (x ∷ hs) h a e =
    elim (same_query x.query q) as (λ b. same_query x.query q ≡ b
    → cond b (Some x) (held_for q hs) ≡ Some h → IsHeld P q h) [
      | true ↦ grind (arith, same_words)
      | false ↦ λ other f. held_found P q hs h a.1 f
    ] refl e

-- ---- the answer to a query that is asked

module _ (w : WorldState) (name : List ℕ) (at : ℕ)
    (is : end_named name w ≡ Some at) (current : HoldsCurrent w (client_at w at)) where
  abbrev pub m : MemberState
  m = client_at w at

  abbrev pub Point : CacheEntry → Type 0
  Point h = HasPoint w.links.limits (client_of m) w.links.past m.state.past h

  is_hit : (h : CacheEntry) (p : Point h)
      → held_for h.query (held m.state.setup m.state.past) ≡ Some h
      → IsHit w name h.query h.value p.fetched
      (point w.links.limits (client_of m) w.links.past m.state.past h p.fetched)
  is_hit h p found = record {
    place = at;
    client = is;
    holds = record { number = h.number; is_held = found; ran = p.ran; point_is = refl };
    answers = record {
      moment = p.moment;
      sooner = p.sooner;
      fetch = p.fetch;
      answers = p.answers;
      order = omega arith;
      within = p.within;
      replies = omega arith;
      invalidations = λ u has i push s got voids there.
          p.after u (among m.state.setup.mode.shape u has) i push s got voids there;
    };
  }

  printed_hit : (h : CacheEntry) → Point h
      → held_for h.query (held m.state.setup m.state.past) ≡ Some h
      → IsHit w name h.query h.value (ran_at (seat_at at w) h.number) (point_at (seat_at at w) h)
  printed_hit h p found =
      let e : ran_at (seat_at at w) h.number ≡ p.fetched = grind arith in
      subst (λ n. IsHit w name h.query h.value n
      (point w.links.limits (client_of m) w.links.past m.state.past h n)) (sym e)
      (is_hit h p found)

  hit_stands : (q : List (List ℕ)) (h : CacheEntry)
      → held_for q (held m.state.setup m.state.past) ≡ Some h
      → IsHit w name q h.value (ran_at (seat_at at w) h.number)
      (point_at (seat_at at w) (record { query = q; value = h.value; number = h.number }))
  hit_stands q h e =
      let g = held_found (λ h. IsCurrent w.links.limits (client_of m) w.links.past m.state.past h
      × Point h) q (held m.state.setup m.state.past) h current e in
      let found = subst (λ ws. held_for ws (held m.state.setup m.state.past) ≡ Some h)
      (sym g.is) e in
      subst (λ ws. IsHit w name ws h.value (ran_at (seat_at at w) h.number)
      (point_at (seat_at at w) (record { query = ws; value = h.value; number = h.number }))) g.is
      (printed_hit h g.has.1 found)

  module _ (q : List (List ℕ)) (named : m.name ≡ name) where
    hit_lines : (o : Option CacheEntry) (n : ℕ)
        → held_for q (held m.state.setup m.state.past) ≡ o
        → Every (HitStands w (Ask name q)) (ask_lines (seat_at at w) q (answer_ask o n))
    hit_lines None n e = (tt, tt)
    hit_lines (Some h) n e = ((named, hit_stands q h e), tt)

    by_if : (b : Bool) (x y : ClientTurn)
        → Every (HitStands w (Ask name q)) (ask_lines (seat_at at w) q x.reply)
        → Every (HitStands w (Ask name q)) (ask_lines (seat_at at w) q y.reply)
        → Every (HitStands w (Ask name q)) (ask_lines (seat_at at w) q (cond b x y).reply)
    by_if b e y p r = grind arith

    asked_stand : Every (HitStands w (Ask name q)) (ask_lines (seat_at at w) q
        (client_step m.state.setup m.state.past (call.Ask q)).reply)
    unfolding client_step
    asked_stand = grind (arith, by_if, hit_lines)

    pub ask_stand : Every (HitStands w (Ask name q)) (client_does at (turn (call.Ask q)) w).lines
    unfolding client_does within turn and_then
    ask_stand = asked_stand

-- ---- the other events

none_stands : (w : WorldState) (event : Event) (x : Line) → NoHit x → HitStands w event x
none_stands w event x n = grind arith

none_stand : (w : WorldState) (event : Event) (ls : List Line) → NoHits ls
    → Every (HitStands w event) ls
none_stand w event [] n = tt
none_stand w event (x ∷ ls) n = (none_stands w event x n.0, none_stand w event ls n.1)

h_event : (event : LinkEvent) (w : WorldState) → Hitless (links_step event w)
unfolding links_step
h_event event w = h_within (on_links w) (links.step w.links event) (h_step event w.links)

h_client : (at : ℕ) (move : LinkEnd → Seat → Outcome Seat) (w : WorldState)
    → ((e : LinkEnd) (s : Seat) → Hitless (move e s)) → Hitless (client_does at move w)
unfolding client_does
h_client at move w n =
    let e = (end_at w.ends at).end in
    h_within (with_seat at w) (move e (seat_at at w)) (n e (seat_at at w))

h_flow : (c : Option ℕ) (name : List ℕ) (w : WorldState) → Hitless (flow_step c name w)
h_flow None name w = h_event (link_event.Over name moves.Flow) w
h_flow (Some at) name w = h_client at flow w h_flows

h_first : (n : ℕ) (w : WorldState) → Hitless (flow_first n w)
unfolding flow_first
h_first zero w = tt
h_first (suc n) w = grind (arith, h_then, h_flow, h_first n w)

h_raw_out : (p count : Option ℕ) (w : WorldState) → Hitless (raw_out p count w)
h_raw_out p count w = grind arith

h_outs : (c : Option ℕ) (name : List ℕ) (count : Option ℕ) (w : WorldState)
    → Hitless (out_step c name count w)
h_outs None name count w = h_raw_out (place_of name w.links) count w
h_outs (Some at) name count w = h_client at (out count) w (h_out count)

h_recvs : (c : Option ℕ) (name : List ℕ) (count : Option ℕ) (w : WorldState)
    → Hitless (recv_step c name count w)
h_recvs None name count w = h_event (link_event.Over name (moves.Recv count)) w
h_recvs (Some at) name count w = h_client at (receive count) w (h_received count)

h_named : (c : Option ℕ) (move : LinkEnd → Seat → Outcome Seat)
    → ((e : LinkEnd) (s : Seat) → Hitless (move e s)) → (w : WorldState)
    → Hitless (named_does c move w)
h_named None move n w = tt
h_named (Some at) move n w = h_client at move w n

h_connect : (shape : Shape) (name : List ℕ) (setup : Setup) (w : WorldState)
    → Hitless (connect shape name setup w)
h_connect Single name setup w = grind (arith, h_then, h_event)
h_connect Pair name setup w = grind (arith, h_then, h_event)

-- where there is no client, nothing is held
current_at : (w : WorldState) → AllServiced w → (at : ℕ) → HoldsCurrent w (member_at w.members at)
current_at w a at =
    elim (cases_lt at (length w.members)) [
      | inl low ↦ (a at low).1
      | inr top ↦
          subst (HoldsCurrent w) (sym (get_or_past w.members at (fresh_member [] 0 0 no_setup) top))
          tt
    ]

ask_named : (name : List ℕ) (q : List (List ℕ)) (w : WorldState) → AllServiced w
    → Every (HitStands w (Ask name q)) (named_does (end_named name w) (turn (call.Ask q)) w).lines
ask_named name q w a =
    elim (end_named name w) as (λ c. end_named name w ≡ c
    → Every (HitStands w (Ask name q)) (named_does c (turn (call.Ask q)) w).lines) [
      | None ↦ λ none. tt
      | Some at ↦ λ is.
          let there = end_named_there name w at is in
          ask_stand w name at is (current_at w a (end_at w.ends at).end.client) q there.2
    ] refl

pub hits_stand : (e : Event) (w : WorldState) → AllServiced w
    → Every (HitStands w e) (step w e).lines
unfolding step
hits_stand (Ask name q) w a = ask_named name q w a
hits_stand (Raw name) w a =
    none_stand w (Raw name) _ (grind (arith, h_if, h_event))
hits_stand (Say name words) w a =
    none_stand w (Say name words) _ (grind (arith, h_event))
hits_stand (Bytes name bytes) w a =
    none_stand w (Bytes name bytes) _ (grind (arith, h_event))
hits_stand (Client name mode capacity) w a =
    none_stand w (Client name mode capacity) _ (grind (arith, h_if, h_then, h_connect))
hits_stand (Out name count) w a =
    none_stand w (Out name count) _ (h_outs (end_of_link name w.ends) name count w)
hits_stand (Serve name count) w a =
    none_stand w (Serve name count) _ (h_event (link_event.Over name (moves.Serve count)) w)
hits_stand (Send name count) w a =
    none_stand w (Send name count) _ (h_event (link_event.Over name (moves.Send count)) w)
hits_stand (Recv name count) w a =
    none_stand w (Recv name count) _ (h_recvs (end_of_link name w.ends) name count w)
hits_stand (Flow name) w a =
    none_stand w (Flow name) _ (h_flow (end_of_link name w.ends) name w)
hits_stand FlowAll w a = none_stand w FlowAll _ (h_first (length w.links.links) w)
hits_stand (Cut name) w a = none_stand w (Cut name) _ (h_event (link_event.Over name moves.Cut) w)
hits_stand (Now moment) w a = none_stand w (Now moment) _ (h_event (link_event.Now moment) w)
hits_stand Tick w a = none_stand w Tick _ (h_event link_event.Tick w)
hits_stand (Do name words) w a =
    none_stand w (Do name words) _
    (h_named (end_named name w) (turn (call.Send words))
    (λ e s. h_turn (call.Send words) e s (λ no. no)) w)
hits_stand (Poll name n) w a =
    none_stand w (Poll name n) _
    (h_named (end_named name w) (turn (call.Poll n)) (λ e s. h_turn (call.Poll n) e s (λ no. no)) w)
hits_stand (Show name) w a =
    none_stand w (Show name) _ (h_named (end_named name w) (λ e. show) (λ e. h_show) w)
