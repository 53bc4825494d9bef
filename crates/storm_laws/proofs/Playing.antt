-- Such a world plays each event of a storm, and stays so.
use Rattle.std.proofs.Common.{◌≡◌, ◌<◌, ◌≤◌, ℕ, zero, suc, List, [], ◌∷◌, false, Some, None, Option}
use Rattle.std.proofs.Common.{codes, length, map, slice_set, refl, sym, ap, subst, ◌∙◌, arith}
use Rattle.command_words.specs.Control.{is_control}
use Rattle.resp_value.specs.Spelling.{request_spelling}
use Rattle.serial_model.specs.History.{is_stopped}
use Rattle.shared_cache.specs.declared.log.ClientCall.TheVariants as call
use Rattle.script_text.specs.declared.event.Event.{Event}
use Rattle.script_text.specs.declared.event.Event.TheVariants.{Raw, Say, Bytes, Client, Out, Serve}
use Rattle.script_text.specs.declared.event.Event.TheVariants.{Send, Recv, Flow, FlowAll, Cut, Ask}
use Rattle.script_text.specs.declared.event.Event.TheVariants.{Do, Poll, Show, Now, Tick}
use Rattle.server_links.specs.declared.link.LinkMove.{LinkMove}
use Rattle.server_links.specs.declared.link.LinkMove.TheVariants as moves
use Rattle.server_links.specs.LinkEvent as link_event
use Rattle.server_links.specs.LinkEvent.{LinkEvent}
use Rattle.server_links.specs.LinksState.{at_place, names}
use Rattle.server_links.specs.LinkSteps as links
use Rattle.server_links.specs.LinkSteps.{place_of}
use Rattle.server_links.specs.Moves.{moved}
use Rattle.server_links.specs.Outcome.{Outcome, and_then, stays, then_by, within}
use Rattle.server_links.specs.Session.{session_at}
use Rattle.server_links.proofs.Names.{unplaced}
use Rattle.world_run.specs.WorldState.{EndState, LinkEnd, MemberState, WorldState, end_at}
use Rattle.world_run.specs.WorldState.{end_of_link, member_at}
use Rattle.world_run.specs.Members.{Seat, seat_at}
use Rattle.world_run.specs.ClientMoves as client
use Rattle.world_run.specs.ClientMoves.{turn}
use Rattle.world_run.specs.World.{Stepped, client_does, end_named, flow_at, flow_first, flow_step}
use Rattle.world_run.specs.World.{links_step, named_does, out_step, raw_out, recv_step, said_step}
use Rattle.world_run.specs.World.{step}
use Rattle.storm_laws.proofs.LinkMoves.{Goes, Smooth, goes_move, goes_now, goes_put, goes_tick}
use Rattle.storm_laws.proofs.LinkMoves.{smooth_flow, smooth_receive, smooth_send, smooth_serve}
use Rattle.storm_laws.proofs.LinkMoves.{tick_names}
use Rattle.storm_laws.proofs.ClientMoves.{OnlyFull, Plays, none, plays_ask, plays_flow, plays_out}
use Rattle.storm_laws.proofs.ClientMoves.{plays_receive, plays_send}
use Rattle.storm_laws.proofs.Settled.{IsClient, IsLink, IsSettled, client_found, end_below}
use Rattle.storm_laws.proofs.Settled.{has_links, link_found, links_count, raw_alone}

-- ---- what is kept

ends_set : (es : List EndState) (at : ℕ) (d : EndState) → d.end ≡ (end_at es at).end
    → map (λ (e : EndState). e.end) (slice_set es at d) ≡ map (λ (e : EndState). e.end) es
ends_set [] at d same = refl
ends_set (x ∷ es) zero d same = ap (λ e. e ∷ map (λ (e : EndState). e.end) es) same
ends_set (x ∷ es) (suc at) d same = ap (λ rest. x.end ∷ rest) (ends_set es at d same)

members_set : (ms : List MemberState) (at : ℕ) (m : MemberState)
    → m.name ≡ (member_at ms at).name
    → map (λ (m : MemberState). m.name) (slice_set ms at m)
    ≡ map (λ (m : MemberState). m.name) ms
members_set [] at m same = refl
members_set (x ∷ ms) zero m same = ap (λ n. n ∷ map (λ (m : MemberState). m.name) ms) same
members_set (x ∷ ms) (suc at) m same = ap (λ rest. x.name ∷ rest) (members_set ms at m same)

-- only a full log stops this, and the world is one of a storm after it
pub record Settles (m : Stepped) : Type 0 where
  pub full : OnlyFull m.fault
  pub settled : IsSettled m.state

settles_stays : (w : WorldState) → IsSettled w → Settles (stays w)
settles_stays w s = record { full = none; settled = s }

links_settle : (event : LinkEvent) (w : WorldState) → IsSettled w
    → names (links.step w.links event).state.links ≡ names w.links.links
    → IsSettled (links_step event w).state
unfolding links_step within
links_settle event w s same =
    record { links = same ∙ s.links; ends = s.ends; clients = s.clients }

links_full : (event : LinkEvent) (w : WorldState) → Goes w.links (links.step w.links event)
    → OnlyFull (links_step event w).fault
unfolding links_step within
links_full event w g f e = absurd (let no : ⊥ = cc (g.smooth, e) in no)

event_settles : (event : LinkEvent) (w : WorldState) → IsSettled w
    → Goes w.links (links.step w.links event) → Settles (links_step event w)
event_settles event w s g =
    record { full = links_full event w g; settled = links_settle event w s g.names }

move_settles : (move : LinkMove) (name : List ℕ) (w : WorldState) → IsSettled w
    → (p : (at : ℕ) × (place_of name w.links ≡ Some at))
    → Smooth (moved move (session_at p.0 w.links))
    → Settles (links_step (link_event.Over name move) w)
move_settles move name w s p smooth =
    event_settles (link_event.Over name move) w s (goes_move move name p.0 w.links p.1 smooth)

client_settles : (at : ℕ) (move : LinkEnd → Seat → Outcome Seat) (w : WorldState) → IsSettled w
    → Plays (seat_at at w) (move (end_at w.ends at).end (seat_at at w))
    → Settles (client_does at move w)
unfolding client_does within
client_settles at move w s k =
    let e = (end_at w.ends at).end in
    let t = (move e (seat_at at w)).state in
    record {
      full = k.full;
      settled = record {
        links = k.names ∙ s.links;
        ends = ends_set w.ends at (record { end = e; reader = t.reader }) refl ∙ s.ends;
        clients = members_set w.members e.client t.member k.name ∙ s.clients;
      };
    }

-- a move of the client of that link, where it has one
by_client : (P : Stepped → Type 0) (name : List ℕ) (w : WorldState) (m : Option ℕ → Stepped)
    → (end_of_link name w.ends ≡ None → P (m None))
    → ((at : ℕ) → at < length w.ends → P (m (Some at)))
    → P (m (end_of_link name w.ends))
by_client P name w m raw own =
    elim (end_of_link name w.ends) as (λ c. end_of_link name w.ends ≡ c → P (m c)) [
      | None ↦ raw
      | Some at ↦ λ is. own at (end_below name w.ends at is)
    ] refl

-- ---- links flow

flow_settles : (name : List ℕ) (w : WorldState) → IsSettled w
    → (p : (at : ℕ) × (place_of name w.links ≡ Some at))
    → Settles (flow_step (end_of_link name w.ends) name w)
flow_settles name w s p =
    by_client Settles name w (λ c. flow_step c name w)
    (λ free. move_settles moves.Flow name w s p (smooth_flow (session_at p.0 w.links)))
    (λ at lt. client_settles at client.flow w s
    (plays_flow (end_at w.ends at).end (seat_at at w) (has_links w s at lt)))

-- a link is found by its name
found_there : (w : WorldState) (at : ℕ) → at < length w.links.links
    → (place : ℕ) × (place_of (at_place w.links.links at).name w.links ≡ Some place)
found_there w at lt =
    let name = (at_place w.links.links at).name in
    elim (place_of name w.links) as (λ p. place_of name w.links ≡ p
    → (place : ℕ) × (p ≡ Some place)) [
      | None ↦ λ free. absurd (unplaced name w.links free at lt refl)
      | Some place ↦ λ is. (place, refl)
    ] refl

first_settles : (n : ℕ) (w : WorldState) → IsSettled w → n ≤ 7 → Settles (flow_first n w)
unfolding flow_first and_then
first_settles zero w s le = settles_stays w s
first_settles (suc n) w s le =
    let m = flow_first n w in
    let k = first_settles n w s (omega (arith, le)) in
    let there : n < length m.state.links.links =
    omega (arith, le, links_count m.state k.settled) in
    let next = flow_settles (at_place m.state.links.links n).name m.state k.settled
    (found_there m.state n there) in
    elim m.fault as (λ v. m.fault ≡ v → Settles (then_by v m (flow_at n m.state))) [
      | Some f ↦ λ is. k
      | None ↦ λ is. record { full = next.full; settled = next.settled }
    ] refl

-- ---- the events of a storm

-- such an event, once its links and clients were made
abbrev pub IsMove : Event → Type 0
IsMove (Raw name) = ⊥
IsMove (Say name words) = name ≡ codes "w"
IsMove (Bytes name bytes) = ⊥
IsMove (Client name mode capacity) = ⊥
IsMove (Out name None) = IsLink name
IsMove (Out name (Some n)) = ⊥
IsMove (Serve name None) = IsLink name
IsMove (Serve name (Some n)) = ⊥
IsMove (Send name None) = IsLink name
IsMove (Send name (Some n)) = ⊥
IsMove (Recv name None) = IsLink name
IsMove (Recv name (Some n)) = ⊥
IsMove (Flow name) = IsLink name
IsMove FlowAll = Unit {0}
IsMove (Cut name) = ⊥
IsMove (Now moment) = Unit {0}
IsMove Tick = Unit {0}
IsMove (Ask name q) = IsClient name
IsMove (Do name words) = IsClient name × (is_control words ≡ false)
IsMove (Poll name n) = ⊥
IsMove (Show name) = ⊥

said_settles : (bytes name : List ℕ) (w : WorldState) → IsSettled w → name ≡ codes "w"
    → Settles (said_step (end_of_link name w.ends) name bytes w)
said_settles bytes name w s is =
    subst (λ n. Settles (said_step (end_of_link n w.ends) n bytes w)) (sym is)
    (subst (λ c. Settles (said_step c (codes "w") bytes w)) (sym (raw_alone w s))
    (let p = link_found w s (codes "w") (6, refl) in
    event_settles (link_event.Put (codes "w") bytes) w s
    (goes_put bytes (codes "w") p.0 w.links p.1)))

out_settles : (name : List ℕ) (w : WorldState) → IsSettled w → IsLink name
    → Settles (out_step (end_of_link name w.ends) name None w)
out_settles name w s is =
    by_client Settles name w (λ c. out_step c name None w)
    (λ free. subst (λ p. Settles (raw_out p None w)) (sym (link_found w s name is).1)
    (settles_stays w s))
    (λ at lt. client_settles at (client.out None) w s
    (plays_out (end_at w.ends at).end (seat_at at w) (has_links w s at lt)))

recv_settles : (name : List ℕ) (w : WorldState) → IsSettled w → IsLink name
    → Settles (recv_step (end_of_link name w.ends) name None w)
recv_settles name w s is =
    let p = link_found w s name is in
    by_client Settles name w (λ c. recv_step c name None w)
    (λ free. move_settles (moves.Recv None) name w s p (smooth_receive (session_at p.0 w.links)))
    (λ at lt. client_settles at (client.receive None) w s
    (plays_receive (end_at w.ends at).end (seat_at at w) (has_links w s at lt)))

named_settles : (name : List ℕ) (move : LinkEnd → Seat → Outcome Seat) (w : WorldState)
    → IsSettled w → IsClient name → ((e : LinkEnd) (t : Seat) → Plays t (move e t))
    → Settles (named_does (end_named name w) move w)
named_settles name move w s is plays =
    let c = client_found w s name is in
    subst (λ p. Settles (named_does p move w)) (sym c.1)
    (client_settles c.0 move w s (plays (end_at w.ends c.0).end (seat_at c.0 w)))

-- such an event leaves the world one of a storm, and only a full log stops it unless the server
-- was stopped
pub record PlaysOn (w : WorldState) (m : Stepped) : Type 0 where
  pub full : is_stopped w.links.limits w.links.past ≡ false → OnlyFull m.fault
  pub settled : IsSettled m.state

plays_on : (w : WorldState) (m : Stepped) → Settles m → PlaysOn w m
plays_on w m k = record { full = λ on. k.full; settled = k.settled }

pub event_plays : (e : Event) (w : WorldState) → IsSettled w → IsMove e → PlaysOn w (step w e)
unfolding step
event_plays (Raw name) w s is = absurd is
event_plays (Say name words) w s is =
    plays_on w _ (said_settles (request_spelling words) name w s is)
event_plays (Bytes name bytes) w s is = absurd is
event_plays (Client name mode capacity) w s is = absurd is
event_plays (Out name None) w s is = plays_on w _ (out_settles name w s is)
event_plays (Out name (Some n)) w s is = absurd is
event_plays (Serve name None) w s is =
    let p = link_found w s name is in
    plays_on w _
    (move_settles (moves.Serve None) name w s p (smooth_serve (session_at p.0 w.links)))
event_plays (Serve name (Some n)) w s is = absurd is
event_plays (Send name None) w s is =
    let p = link_found w s name is in
    plays_on w _
    (move_settles (moves.Send None) name w s p (smooth_send (session_at p.0 w.links)))
event_plays (Send name (Some n)) w s is = absurd is
event_plays (Recv name None) w s is = plays_on w _ (recv_settles name w s is)
event_plays (Recv name (Some n)) w s is = absurd is
event_plays (Flow name) w s is = plays_on w _ (flow_settles name w s (link_found w s name is))
event_plays FlowAll w s is =
    let le : length w.links.links ≤ 7 = omega (arith, links_count w s) in
    plays_on w _ (first_settles (length w.links.links) w s le)
event_plays (Cut name) w s is = absurd is
event_plays (Now moment) w s is =
    plays_on w _ (event_settles (link_event.Now moment) w s (goes_now moment w.links))
event_plays Tick w s is = record {
  full = λ on. links_full link_event.Tick w (goes_tick w.links on);
  settled = links_settle link_event.Tick w s (tick_names w.links);
}
event_plays (Ask name q) w s is =
    plays_on w _ (named_settles name (turn (call.Ask q)) w s is (λ e. plays_ask e q))
event_plays (Do name words) w s is =
    plays_on w _ (named_settles name (turn (call.Send words)) w s is.0
    (λ e t. plays_send e words t is.1))
event_plays (Poll name n) w s is = absurd is
event_plays (Show name) w s is = absurd is
