-- The links and the clients that an event does not name are as they were.
use Rattle.std.proofs.Common.{◌≡◌, ◌<◌, ◌+◌, ℕ, zero, suc, List, [], ◌∷◌, Bool, true, false, cond}
use Rattle.std.proofs.Common.{Some, None, Option, length, not, refl, sym, ap, subst, ◌∙◌, arith}
use Rattle.std.specs.Prelude.{◌||◌}
use Rattle.std.proofs.lemmas.Bool.{both_ways}
use Rattle.std.proofs.lemmas.List.{get_or-set_other}
use Rattle.std.specs.Option.{is_some}
use Rattle.std.specs.Str.{bytes_eq}
use Rattle.resp_value.specs.Lists.{IsPrefix}
use Rattle.resp_value.specs.Spelling.{request_spelling}
use Rattle.serial_model.specs.declared.history.Limits.{Limits}
use Rattle.shared_cache.specs.declared.log.ClientCall.TheVariants as call
use Rattle.shared_cache.specs.declared.log.Shape.{Shape}
use Rattle.shared_cache.specs.declared.log.Shape.TheVariants.{Single, Pair}
use Rattle.shared_cache.specs.declared.log.Wire.{Wire}
use Rattle.shared_cache.specs.declared.log.Wire.TheVariants.{Main, Side}
use Rattle.shared_cache.specs.Held.{Setup}
use Rattle.script_text.specs.declared.event.Event.{Event}
use Rattle.script_text.specs.declared.event.Event.TheVariants.{Raw, Say, Bytes, Client, Out, Serve}
use Rattle.script_text.specs.declared.event.Event.TheVariants.{Send, Recv, Flow, FlowAll, Cut, Ask}
use Rattle.script_text.specs.declared.event.Event.TheVariants.{Do, Poll, Show, Now, Tick}
use Rattle.script_text.specs.declared.line.Line.{Line}
use Rattle.server_links.specs.declared.fault.WorldFault.{WorldFault}
use Rattle.server_links.specs.declared.fault.WorldFault.TheVariants.{NameTaken, NoName}
use Rattle.server_links.specs.declared.fault.WorldFault.TheVariants.{NothingThere, Refused}
use Rattle.server_links.specs.declared.link.LinkMove.{LinkMove}
use Rattle.server_links.specs.declared.link.LinkMove.TheVariants as moves
use Rattle.server_links.specs.LinkEvent as link_event
use Rattle.server_links.specs.LinkEvent.{LinkEvent}
use Rattle.server_links.specs.LinksState.{LinksState, at_place}
use Rattle.server_links.specs.LinkSteps as links
use Rattle.server_links.specs.LinkSteps.{place_of}
use Rattle.server_links.specs.Outcome.{Outcome, Reached, does, refuses}
use Rattle.server_links.proofs.Outcomes.{Fronts, fronts_once, fronts_reached, fronts_refuses}
use Rattle.server_links.proofs.Outcomes.{fronts_stays, fronts_then, fronts_within, Meets}
use Rattle.server_links.proofs.Outcomes.{meets_refuses, meets_stays, meets_weaker, meets_within}
use Rattle.world_run.specs.WorldState.{LinkEnd, WorldState, client_at, end_at, end_of_link}
use Rattle.world_run.specs.WorldState.{fresh_end, fresh_member, link_on, member_at, no_setup}
use Rattle.world_run.specs.Members.{Seat, seat_at, with_seat}
use Rattle.world_run.specs.ClientMoves as client
use Rattle.world_run.specs.ClientMoves.{show, turn}
use Rattle.world_run.specs.WorldHistory.{OthersKept, is_among, links_named, links_of, read_by}
use Rattle.world_run.specs.World.{Stepped, client_does, connect, end_named, flow_first, flow_step}
use Rattle.world_run.specs.World.{is_served, is_taken, join, links_step, named_does, not_served}
use Rattle.world_run.specs.World.{on_links, out_step, raw_out, recv_step, said_step, setup_by, step}
use Rattle.server_links.proofs.Events.{step_fronts}
use Rattle.world_run.proofs.Kept.{IsOrderly, Kept, LinksKept, Orderly, among_first, among_more}
use Rattle.world_run.proofs.Kept.{flow_orderly, links_same, named_kept, o_out, out_orderly}
use Rattle.world_run.proofs.Kept.{own_links, receive_orderly, show_orderly, turn_orderly}
use Rattle.world_run.proofs.Names.{end_named_there, end_there}
use Rattle.world_run.proofs.Worlds.{WorldStands}

-- ---- what is printed by then

f_if : {S : Type 0} → (b : Bool) (m n : Outcome S) → Fronts m → Fronts n → Fronts (cond b m n)
f_if e m n a b = grind arith

f_event : (event : LinkEvent) (w : WorldState) → Fronts (links_step event w)
unfolding links_step
f_event event w = grind (arith, fronts_within, step_fronts)

f_client : (at : ℕ) (move : LinkEnd → Seat → Outcome Seat) → IsOrderly move → (w : WorldState)
    → Fronts (client_does at move w)
unfolding client_does
f_client at move o w =
    let e = (end_at w.ends at).end in
    fronts_within (with_seat at w) (move e (seat_at at w)) (o e (seat_at at w)).fronts

f_flow : (c : Option ℕ) (name : List ℕ) (w : WorldState) → Fronts (flow_step c name w)
f_flow None name w = f_event (link_event.Over name moves.Flow) w
f_flow (Some at) name w = f_client at client.flow flow_orderly w

f_first : (n : ℕ) (w : WorldState) → Fronts (flow_first n w)
unfolding flow_first
f_first zero w = fronts_stays w
f_first (suc n) w = grind (arith, fronts_then, f_flow, f_first n w)

f_raw_out : (p count : Option ℕ) (w : WorldState) → Fronts (raw_out p count w)
f_raw_out p count w = grind (arith, fronts_refuses, fronts_stays)

f_out : (c : Option ℕ) (name : List ℕ) (count : Option ℕ) (w : WorldState)
    → Fronts (out_step c name count w)
f_out None name count w = f_raw_out (place_of name w.links) count w
f_out (Some at) name count w = f_client at (client.out count) (out_orderly count) w

f_recv : (c : Option ℕ) (name : List ℕ) (count : Option ℕ) (w : WorldState)
    → Fronts (recv_step c name count w)
f_recv None name count w = f_event (link_event.Over name (moves.Recv count)) w
f_recv (Some at) name count w = f_client at (client.receive count) (receive_orderly count) w

f_named : (c : Option ℕ) (move : LinkEnd → Seat → Outcome Seat) → IsOrderly move
    → (w : WorldState) → Fronts (named_does c move w)
f_named None move o w = fronts_refuses w NoName
f_named (Some at) move o w = f_client at move o w

f_join : (name : List ℕ) (main side : ℕ) (setup : Setup) (w : WorldState)
    → Fronts (join name main side setup w)
f_join name main side setup w = fronts_stays _

f_connect : (shape : Shape) (name : List ℕ) (setup : Setup) (w : WorldState)
    → Fronts (connect shape name setup w)
f_connect Single name setup w =
    let place = length w.links.links in
    fronts_then (links_step (link_event.Raw (link_on Main name)) w) (join name place place setup)
    (f_event (link_event.Raw (link_on Main name)) w) (f_join name place place setup)
f_connect Pair name setup w =
    let place = length w.links.links in
    f_if (is_some (place_of (link_on Main name) w.links)) _ _ (fronts_refuses w NameTaken)
    (fronts_then (links_step (link_event.Raw (link_on Side name)) w) _
    (f_event (link_event.Raw (link_on Side name)) w)
    (λ u. fronts_then (links_step (link_event.Raw (link_on Main name)) u)
    (join name (place + 1) place setup) (f_event (link_event.Raw (link_on Main name)) u)
    (f_join name (place + 1) place setup)))

event_fronts : (e : Event) (w : WorldState) → Fronts (step w e)
unfolding step
event_fronts (Raw name) w = grind (arith, f_if, fronts_refuses, f_event)
event_fronts (Say name words) w = grind (arith, f_event, fronts_refuses)
event_fronts (Bytes name bytes) w = grind (arith, f_event, fronts_refuses)
event_fronts (Client name mode capacity) w =
    let setup = setup_by w mode capacity in
    f_if (not (is_served mode)) _ _ (fronts_refuses w (Refused not_served))
    (f_if (is_taken name w) _ _ (fronts_refuses w NameTaken)
    (fronts_then (does w w []) (connect mode.shape name setup) (fronts_once w w [] None)
    (f_connect mode.shape name setup)))
event_fronts (Out name count) w = f_out (end_of_link name w.ends) name count w
event_fronts (Serve name count) w = f_event (link_event.Over name (moves.Serve count)) w
event_fronts (Send name count) w = f_event (link_event.Over name (moves.Send count)) w
event_fronts (Recv name count) w = f_recv (end_of_link name w.ends) name count w
event_fronts (Flow name) w = f_flow (end_of_link name w.ends) name w
event_fronts FlowAll w = f_first (length w.links.links) w
event_fronts (Cut name) w = f_event (link_event.Over name moves.Cut) w
event_fronts (Now moment) w = f_event (link_event.Now moment) w
event_fronts Tick w = f_event link_event.Tick w
event_fronts (Ask name q) w =
    f_named (end_named name w) (turn (call.Ask q)) (turn_orderly (call.Ask q)) w
event_fronts (Do name words) w =
    f_named (end_named name w) (turn (call.Send words)) (turn_orderly (call.Send words)) w
event_fronts (Poll name n) w =
    f_named (end_named name w) (turn (call.Poll n)) (turn_orderly (call.Poll n)) w
event_fronts (Show name) w = f_named (end_named name w) (λ e. show) show_orderly w

pub printed_first : (w : WorldState) (e : Event) (new : WorldState) (printed : List Line)
    → Reached (step w e) new printed → IsPrefix printed (step w e).lines
printed_first w e new printed r = fronts_reached (step w e) (event_fronts e w) new printed r

-- ---- what is left

record Apart (w : WorldState) (names : List (List ℕ)) (v : WorldState) : Type 0 where
  links : LinksKept w.links names v.links
  ends : (i : ℕ) → is_among names (end_at w.ends i).end.link ≡ false
      → end_at v.ends i ≡ end_at w.ends i
  members : (i : ℕ) → ((u : Wire) → is_among names (link_on u (member_at w.members i).name) ≡ false)
      → member_at v.members i ≡ member_at w.members i

apart_same : (w : WorldState) (names : List (List ℕ)) → Apart w names w
apart_same w names =
    record { links = links_same w.links names; ends = λ i n. refl; members = λ i n. refl }

abbrev Leaves : WorldState → List (List ℕ) → Stepped → Type 0
Leaves w names m = Meets (λ v ls. Apart w names v) (λ v ls. Apart w names v) m

a_refused : (w : WorldState) (names : List (List ℕ)) (f : WorldFault) → Leaves w names (refuses w f)
a_refused w names f =
    meets_refuses (λ v ls. Apart w names v) (λ v ls. Apart w names v) w f (apart_same w names)

a_event : (event : LinkEvent) (names : List (List ℕ)) (w : WorldState)
    → Meets (λ v ls. LinksKept w.links names v) (λ v ls. LinksKept w.links names v)
    (links.step w.links event) → Leaves w names (links_step event w)
unfolding links_step
a_event event names w k =
    let apart : (v : LinksState) (ls : List Line) → LinksKept w.links names v
    → Apart w names (on_links w v) =
    λ v ls q. record { links = q; ends = λ i n. refl; members = λ i n. refl } in
    meets_within (on_links w) (λ v ls. Apart w names v) (λ v ls. Apart w names v)
    (links.step w.links event)
    (meets_weaker (λ v ls. LinksKept w.links names v) (λ v ls. Apart w names (on_links w v))
    (λ v ls. LinksKept w.links names v) (λ v ls. Apart w names (on_links w v))
    (links.step w.links event) apart apart k)

a_over : (name : List ℕ) (move : LinkMove) (w : WorldState)
    → Leaves w (name ∷ []) (links_step (link_event.Over name move) w)
unfolding links.step
a_over name move w =
    a_event (link_event.Over name move) (name ∷ []) w
    (named_kept (link_event.Over name move) w.links name (name ∷ []) (among_first name []))

a_put : (name bytes : List ℕ) (w : WorldState)
    → Leaves w (name ∷ []) (links_step (link_event.Put name bytes) w)
unfolding links.step
a_put name bytes w =
    a_event (link_event.Put name bytes) (name ∷ []) w
    (named_kept (link_event.Put name bytes) w.links name (name ∷ []) (among_first name []))

a_said : (c : Option ℕ) (name bytes : List ℕ) (w : WorldState)
    → Leaves w (name ∷ []) (said_step c name bytes w)
a_said None name bytes w = a_put name bytes w
a_said (Some at) name bytes w = a_refused w (name ∷ []) NoName

a_raw_out : (name : List ℕ) (p count : Option ℕ) (w : WorldState)
    → Leaves w (name ∷ []) (raw_out p count w)
a_raw_out name None count w = a_refused w (name ∷ []) NoName
a_raw_out name (Some at) None w =
    meets_stays (λ v ls. Apart w (name ∷ []) v) (λ v ls. Apart w (name ∷ []) v) w
    (apart_same w (name ∷ [])) (apart_same w (name ∷ []))
a_raw_out name (Some at) (Some n) w = a_refused w (name ∷ []) NothingThere

-- ---- a client's

links_more : (w v : LinksState) (names more : List (List ℕ))
    → ((n : List ℕ) → is_among more n ≡ false → is_among names n ≡ false) → LinksKept w names v
    → LinksKept w more v
links_more w v names more less k = record {
  size = k.size;
  entries = k.entries;
  grows = k.grows;
  others = λ i off. k.others i (less (at_place w.links i).name off);
  stay = k.stay;
}

-- a move at an end whose link is named, and one of its client
a_client : (at : ℕ) (own : List ℕ → List (List ℕ)) (names : List (List ℕ)) (u : Wire)
    (move : LinkEnd → Seat → Outcome Seat) (w : WorldState)
    → let e = (end_at w.ends at).end in let m = client_at w at in
    Orderly own (seat_at at w) (move e (seat_at at w))
    → ((n : List ℕ) → is_among names n ≡ false → is_among (own m.name) n ≡ false)
    → is_among names e.link ≡ true → is_among names (link_on u m.name) ≡ true
    → Leaves w names (client_does at move w)
unfolding client_does
a_client at own names u move w o less link its =
    let e = (end_at w.ends at).end in
    let s = seat_at at w in
    let apart : (t : Seat) → Kept own s t → Apart w names (with_seat at w t) = λ t k. record {
      links = links_more w.links t.links (own s.member.name) names less k.links;
      ends = λ i off.
          get_or-set_other w.ends at i (record { end = e; reader = t.reader })
          (fresh_end 0 Main [] 0)
          (λ same. both_ways _ off
          (ap (λ j. is_among names (end_at w.ends j).end.link) same ∙ link));
      members = λ i off.
          get_or-set_other w.members e.client i t.member (fresh_member [] 0 0 no_setup)
          (λ same. both_ways _ (off u)
          (ap (λ j. is_among names (link_on u (member_at w.members j).name)) same ∙ its));
    } in
    meets_within (with_seat at w) (λ v ls. Apart w names v) (λ v ls. Apart w names v) (move e s)
    (record {
      ends = λ none. apart (move e s).state (o.kept.ends none);
      all = λ t ls r. apart t (o.kept.all t ls r);
    })

main_less : (a b : Bool) → (a || (b || false)) ≡ false → (a || (a || false)) ≡ false
main_less a b off = grind arith

side_less : (a b : Bool) → (a || (b || false)) ≡ false → (b || (a || false)) ≡ false
side_less a b off = grind arith

-- both of a client's links are among its own
own_less : (u : Wire) (link name n : List ℕ) → link ≡ link_on u name
    → is_among (links_of name) n ≡ false
    → is_among (link ∷ link_on Main name ∷ []) n ≡ false
own_less Main link name n is off =
    subst (λ l. is_among (l ∷ link_on Main name ∷ []) n ≡ false) (sym is)
    (main_less (bytes_eq n (link_on Main name)) (bytes_eq n (link_on Side name)) off)
own_less Side link name n is off =
    subst (λ l. is_among (l ∷ link_on Main name ∷ []) n ≡ false) (sym is)
    (side_less (bytes_eq n (link_on Main name)) (bytes_eq n (link_on Side name)) off)

own_named : (u : Wire) (name : List ℕ) → is_among (links_of name) (link_on u name) ≡ true
own_named Main name = among_first (link_on Main name) (link_on Side name ∷ [])
own_named Side name =
    among_more (link_on Main name) (link_on Side name) (link_on Side name ∷ [])
    (among_first (link_on Side name) [])

some_is : {A : Type 0} → (a b : A) → Some a ≡ Some b → a ≡ b
some_is a b e = cc

module _ (l : Limits) (heard : ℕ → List ℕ) (raw : List ℕ → List ℕ) (lines : List Line)
    (w : WorldState) (h : WorldStands l heard raw lines w) where
  a_own : (at : ℕ) → at < length w.ends → (move : LinkEnd → Seat → Outcome Seat) → IsOrderly move
      → Leaves w (links_of (client_at w at).name) (client_does at move w)
  a_own at lt move o =
      let e = (end_at w.ends at).end in
      let name = (client_at w at).name in
      let named = (h.each at lt).0.named in
      a_client at (own_links e) (links_of name) e.wire move w (o e (seat_at at w))
      (λ n. own_less e.wire e.link name n named)
      (ap (is_among (links_of name)) named ∙ own_named e.wire name) (own_named e.wire name)

  a_named : (name : List ℕ) (move : LinkEnd → Seat → Outcome Seat) → IsOrderly move
      → Leaves w (links_of name) (named_does (end_named name w) move w)
  a_named name move o =
      elim (end_named name w) as (λ c. end_named name w ≡ c
      → Leaves w (links_of name) (named_does c move w)) [
        | None ↦ λ is. a_refused w (links_of name) NoName
        | Some at ↦ λ is. (let t = end_named_there name w at is in
            subst (λ n. Leaves w (links_of n) (client_does at move w)) t.2
            (a_own at t.0 move o))
      ] refl

  a_out : (name : List ℕ) (count : Option ℕ)
      → Leaves w (name ∷ []) (out_step (end_of_link name w.ends) name count w)
  a_out name count =
      elim (end_of_link name w.ends) as (λ c. end_of_link name w.ends ≡ c
      → Leaves w (name ∷ []) (out_step c name count w)) [
        | None ↦ λ is. a_raw_out name (place_of name w.links) count w
        | Some at ↦ λ is. (let t = end_there name w.ends at is in
            let e = (end_at w.ends at).end in
            let own = among_first e.link [] in
            subst (λ n. Leaves w (n ∷ []) (client_does at (client.out count) w)) t.1
            (a_client at (λ m. e.link ∷ []) (e.link ∷ []) e.wire (client.out count) w
            (o_out (λ m. e.link ∷ []) e (λ m. own) count (seat_at at w)) (λ n off. off) own
            (ap (is_among (e.link ∷ [])) (sym (h.each at t.0).0.named) ∙ own)))
      ] refl

  -- where a client reads
  a_read : (name : List ℕ) (move : LinkEnd → Seat → Outcome Seat) → IsOrderly move
      → (by : Option ℕ → Stepped) → Leaves w (name ∷ []) (by None)
      → ((at : ℕ) → by (Some at) ≡ client_does at move w)
      → let c = end_of_link name w.ends in Leaves w (read_by c w name) (by c)
  a_read name move o by f same =
      elim (end_of_link name w.ends) as (λ c. end_of_link name w.ends ≡ c
      → Leaves w (read_by c w name) (by c)) [
        | None ↦ λ is. f
        | Some at ↦ λ is. subst (Leaves w (links_of (client_at w at).name)) (sym (same at))
            (a_own at (end_there name w.ends at is).0 move o)
      ] refl

  apart_by : (e : Event) (own names : List (List ℕ)) → Some own ≡ Some names
      → Leaves w own (step w e) → Leaves w names (step w e)
  apart_by e own names is a = subst (λ n. Leaves w n (step w e)) (some_is own names is) a

  apart_then : (e : Event) (names : List (List ℕ)) → links_named w e ≡ Some names
      → Leaves w names (step w e)
  unfolding step
  apart_then (Say n words) names e =
      apart_by (Say n words) (n ∷ []) names e
      (a_said (end_of_link n w.ends) n (request_spelling words) w)
  apart_then (Bytes n bytes) names e =
      apart_by (Bytes n bytes) (n ∷ []) names e (a_said (end_of_link n w.ends) n bytes w)
  apart_then (Out n count) names e = apart_by (Out n count) (n ∷ []) names e (a_out n count)
  apart_then (Serve n count) names e =
      apart_by (Serve n count) (n ∷ []) names e (a_over n (moves.Serve count) w)
  apart_then (Send n count) names e =
      apart_by (Send n count) (n ∷ []) names e (a_over n (moves.Send count) w)
  apart_then (Recv n count) names e =
      apart_by (Recv n count) (read_by (end_of_link n w.ends) w n) names e
      (a_read n (client.receive count) (receive_orderly count) (λ c. recv_step c n count w)
      (a_over n (moves.Recv count) w) (λ at. refl))
  apart_then (Flow n) names e =
      apart_by (Flow n) (read_by (end_of_link n w.ends) w n) names e
      (a_read n client.flow flow_orderly (λ c. flow_step c n w) (a_over n moves.Flow w)
      (λ at. refl))
  apart_then (Cut n) names e = apart_by (Cut n) (n ∷ []) names e (a_over n moves.Cut w)
  apart_then (Ask n q) names e =
      apart_by (Ask n q) (links_of n) names e
      (a_named n (turn (call.Ask q)) (turn_orderly (call.Ask q)))
  apart_then (Do n words) names e =
      apart_by (Do n words) (links_of n) names e
      (a_named n (turn (call.Send words)) (turn_orderly (call.Send words)))
  apart_then (Poll n k) names e =
      apart_by (Poll n k) (links_of n) names e
      (a_named n (turn (call.Poll k)) (turn_orderly (call.Poll k)))
  apart_then (Show n) names e =
      apart_by (Show n) (links_of n) names e (a_named n (λ e. show) show_orderly)
  apart_then h names e = absurd (let no : ⊥ = cc in no)

  pub others_kept : (e : Event) (new : WorldState) (printed : List Line)
      → Reached (step w e) new printed → (names : List (List ℕ)) → links_named w e ≡ Some names
      → OthersKept w names new
  others_kept e new printed r names is =
      let a = (apart_then e names is).all new printed r in
      record { links = a.links.others; ends = a.ends; members = a.members }
