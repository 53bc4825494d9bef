-- What each event leaves of a world as it was, and that what is printed by then begins what it
-- prints.
use Rattle.std.proofs.Common.{◌≡◌, ℕ, zero, suc, List, [], ◌∷◌, ◌++◌, Bool, cond, not, Some, None}
use Rattle.std.proofs.Common.{Option, length, refl, sym, ap, subst, ◌∙◌, append_assoc, arith}
use Rattle.std.proofs.Common.{◌+◌, false}
use Rattle.std.specs.Option.{is_some}
use Rattle.std.specs.Str.{bytes_eq}
use Rattle.serial_model.specs.declared.history.Entry.{Entry}
use Rattle.shared_cache.specs.declared.log.ClientCall.TheVariants as call
use Rattle.shared_cache.specs.declared.log.ClientMode.{ClientMode}
use Rattle.shared_cache.specs.declared.log.Shape.{Shape}
use Rattle.shared_cache.specs.declared.log.Shape.TheVariants.{Single, Pair}
use Rattle.shared_cache.specs.declared.log.Wire.TheVariants.{Main, Side}
use Rattle.shared_cache.specs.Held.{Setup}
use Rattle.script_text.specs.declared.event.Event.{Event}
use Rattle.script_text.specs.declared.event.Event.TheVariants.{Raw, Say, Bytes, Client, Out, Serve}
use Rattle.script_text.specs.declared.event.Event.TheVariants.{Send, Recv, Flow, FlowAll, Cut, Ask}
use Rattle.script_text.specs.declared.event.Event.TheVariants.{Do, Poll, Show, Now, Tick}
use Rattle.script_text.specs.declared.line.Line.{Line}
use Rattle.server_links.specs.declared.fault.WorldFault.{WorldFault}
use Rattle.server_links.specs.declared.fault.WorldFault.TheVariants.{NameTaken, NoName, Refused}
use Rattle.server_links.specs.declared.link.LinkMove.{LinkMove}
use Rattle.server_links.specs.declared.link.LinkMove.TheVariants as moves
use Rattle.server_links.specs.LinkEvent as link_event
use Rattle.server_links.specs.LinkEvent.{LinkEvent}
use Rattle.server_links.specs.LinksState.{LinksState, at_place}
use Rattle.server_links.specs.LinkSteps as links
use Rattle.server_links.specs.LinkSteps.{place_of}
use Rattle.server_links.specs.Outcome.{Outcome, Reached, does, refuses}
use Rattle.server_links.proofs.Ended.{StayOver, over_below, raw_over}
use Rattle.server_links.proofs.LinksStand.{not_equal}
use Rattle.server_links.proofs.Names.{unplaced}
use Rattle.server_links.proofs.Outcomes.{Meets, meets_does, meets_refuses, meets_stays, meets_then}
use Rattle.server_links.proofs.Outcomes.{meets_weaker, meets_within}
use Rattle.world_run.specs.WorldState.{EndState, IsOver, LinkEnd, MemberState, WorldState}
use Rattle.world_run.specs.WorldState.{end_at, end_of_link, fresh_end, fresh_member, link_on}
use Rattle.world_run.specs.Members.{Seat, seat_at, with_seat}
use Rattle.world_run.specs.ClientMoves as client
use Rattle.world_run.specs.ClientMoves.{show, turn}
use Rattle.world_run.specs.World.{Stepped, client_does, client_step, flow_at, flow_first, flow_step}
use Rattle.world_run.specs.World.{connect, end_named, fresh_ends, is_served, is_taken, join}
use Rattle.world_run.specs.World.{links_step, named_does, not_served, on_links, out_step, recv_step}
use Rattle.world_run.specs.World.{making, setup_by, step}
use Rattle.server_links.proofs.Moments.{tick_goes_on}
use Rattle.world_run.proofs.Kept.{IsOrderly, Kept, LinksKept, among_first, clock_kept, flow_orderly}
use Rattle.world_run.proofs.Kept.{links_same, named_kept, out_orderly, own_links, receive_orderly}
use Rattle.world_run.proofs.Kept.{show_orderly, tick_kept, turn_orderly}
use Rattle.world_run.proofs.Links.{step_moved}
use Rattle.world_run.proofs.Names.{end_set, ends_more}

by_if : {S : Type 0} → (P : Outcome S → Type 0) (b : Bool) (m n : Outcome S) → P m → P n
    → P (cond b m n)
by_if P b m n p q = grind arith

-- what is over stays so, and keeps its name
abbrev pub Still : WorldState → WorldState → Type 0
Still w v = (at : ℕ) → IsOver w at → IsOver v at
    × ((at_place v.links.links at).name ≡ (at_place w.links.links at).name)

still_same : (w : WorldState) → Still w w
still_same w at is = (is, refl)

still_both : (w u v : WorldState) → Still w u → Still u v → Still w v
still_both w u v a b at is = grind arith

-- the history grows, and no link is made
pub record Onward (w v : WorldState) : Type 0 where
  pub size : length v.links.links ≡ length w.links.links
  pub entries : List Entry
  pub grows : v.links.past ≡ entries ++ w.links.past
  pub still : Still w v

onward_same : (w : WorldState) → Onward w w
onward_same w = record { size = refl; entries = []; grows = refl; still = still_same w }

onward_both : (w u v : WorldState) → Onward w u → Onward u v → Onward w v
onward_both w u v a b = record {
  size = b.size ∙ a.size;
  entries = b.entries ++ a.entries;
  grows = b.grows ∙ ap (λ x. b.entries ++ x) a.grows
      ∙ sym (append_assoc b.entries a.entries w.links.past);
  still = still_both w u v a.still b.still;
}

abbrev Goes : WorldState → Stepped → Type 0
Goes w m = Meets (λ v ls. Onward w v) (λ v ls. Onward w v) m

goes_refused : (w : WorldState) (f : WorldFault) → Goes w (refuses w f)
goes_refused w f = grind (arith, meets_refuses, onward_same)

goes_linked : (event : LinkEvent) (names : List (List ℕ)) (w : WorldState)
    → Meets (λ v ls. LinksKept w.links names v) (λ v ls. LinksKept w.links names v)
    (links.step w.links event) → Goes w (links_step event w)
unfolding links_step
goes_linked event names w k =
    meets_within (on_links w) (λ v ls. Onward w v) (λ v ls. Onward w v)
    (links.step w.links event)
    (meets_weaker (λ v ls. LinksKept w.links names v) (λ v ls. Onward w (on_links w v))
    (λ v ls. LinksKept w.links names v) (λ v ls. Onward w (on_links w v))
    (links.step w.links event) (λ v ls q. grind (arith, over_below))
    (λ v ls q. grind (arith, over_below)) k)

pub goes_over : (name : List ℕ) (move : LinkMove) (w : WorldState)
    → Goes w (links_step (link_event.Over name move) w)
unfolding links.step
goes_over name move w =
    goes_linked (link_event.Over name move) (name ∷ []) w
    (named_kept (link_event.Over name move) w.links name (name ∷ []) (among_first name []))

goes_clock : (moment : ℕ) (w : WorldState) → Goes w (links_step (link_event.Now moment) w)
unfolding links.step
goes_clock moment w =
    let k = clock_kept w.links moment in
    goes_linked (link_event.Now moment) [] w
    (meets_stays (λ v ls. LinksKept w.links [] v) (λ v ls. LinksKept w.links [] v) _ k k)

goes_tick : (w : WorldState) → Goes w (links_step link_event.Tick w)
unfolding links.step
goes_tick w =
    goes_linked link_event.Tick [] w
    (grind (arith, tick_goes_on, LinksKept, links_same, tick_kept))

goes_put : (name bytes : List ℕ) (w : WorldState)
    → Goes w (links_step (link_event.Put name bytes) w)
unfolding links.step
goes_put name bytes w =
    goes_linked (link_event.Put name bytes) (name ∷ []) w
    (named_kept (link_event.Put name bytes) w.links name (name ∷ []) (among_first name []))

goes_client : (at : ℕ) (move : LinkEnd → Seat → Outcome Seat) → IsOrderly move
    → (w : WorldState) → Goes w (client_does at move w)
unfolding client_does
goes_client at move orderly w =
    let e = (end_at w.ends at).end in
    let s = seat_at at w in
    let m = move e s in
    let onward : (t : Seat) → Kept (own_links e) s t → Onward w (with_seat at w t) =
    λ t k. record {
      size = k.links.size;
      entries = k.links.entries;
      grows = k.links.grows;
      still = λ i is. let named = k.links.stay.named i (over_below w.links i is.link) in (
        record {
          link = k.links.stay.over i is.link;
          apart = ap (λ n. end_of_link n (with_seat at w t).ends) named
              ∙ end_set (at_place w.links.links i).name w.ends at
              (record { end = e; reader = t.reader }) refl
              ∙ is.apart;
        },
        named,
      );
    } in
    meets_within (with_seat at w) (λ v ls. Onward w v) (λ v ls. Onward w v) m
    (record {
      ends = λ none. onward m.state ((orderly e s).kept.ends none);
      all = λ t ls r. onward t ((orderly e s).kept.all t ls r);
    })

pub goes_flow : (c : Option ℕ) (name : List ℕ) (w : WorldState) → Goes w (flow_step c name w)
goes_flow None name w = goes_over name moves.Flow w
goes_flow (Some at) name w = goes_client at client.flow flow_orderly w

pub flow_size : (n : ℕ) (w v : WorldState) (ls : List Line) → Reached (flow_at n w) v ls
    → length v.links.links ≡ length w.links.links
flow_size n w v ls r =
    let name = (at_place w.links.links n).name in
    ((goes_flow (end_of_link name w.ends) name w).all v ls r).size

goes_first : (n : ℕ) (w : WorldState) → Goes w (flow_first n w)
unfolding flow_first
goes_first zero w = grind (arith, meets_stays, onward_same)
goes_first (suc n) w =
    let m = flow_first n w in
    meets_then (λ v ls. Onward w v) (λ v ls. Onward w v) (λ v ls. Onward w v) m (flow_at n)
    (goes_first n w)
    (λ none k.
    let name = (at_place m.state.links.links n).name in
    meets_weaker (λ v ls. Onward m.state v) (λ v ls. Onward w v) (λ v ls. Onward m.state v)
    (λ v ls. Onward w v) (flow_at n m.state) (λ v ls. onward_both w m.state v k)
    (λ v ls. onward_both w m.state v k)
    (goes_flow (end_of_link name m.state.ends) name m.state))

-- ---- the history grows at any event

abbrev pub Grows : WorldState → WorldState → Type 0
Grows w v = (es : List Entry) × (v.links.past ≡ es ++ w.links.past) × Still w v

abbrev Growing : WorldState → Stepped → Type 0
Growing w m = Meets (λ v ls. Grows w v) (λ v ls. Grows w v) m

as_growing : (w : WorldState) (m : Stepped) → Goes w m → Growing w m
as_growing w m k = grind (arith, meets_weaker)

grows_both : (w u v : WorldState) → Grows w u → Grows u v → Grows w v
grows_both w u v a b = (
  b.0 ++ a.0,
  b.1 ∙ ap (λ x. b.0 ++ x) a.1 ∙ sym (append_assoc b.0 a.0 w.links.past),
  still_both w u v a.2 b.2,
)

-- no link that is over has that name
Free : WorldState → List ℕ → Type 0
Free w link = (at : ℕ) → IsOver w at → (at_place w.links.links at).name ≡ link → ⊥

free_before : (w u : WorldState) (link : List ℕ) → Grows w u → Free u link → Free w link
unfolding Free
free_before w u link g free at is same = let k = g.2 at is in free at k.0 (k.1 ∙ same)

-- where the link was made, its name was free
raw_grows : (name : List ℕ) (w : WorldState)
    → Meets (λ v ls. Grows w v × Free w name) (λ v ls. Grows w v)
    (links_step (link_event.Raw name) w)
unfolding links_step Free
raw_grows name w =
    let event = link_event.Raw name in
    let k = step_moved w.links event in
    let o = raw_over name w.links in
    let still : (v : LinksState) → StayOver w.links v → Still w (on_links w v) =
    λ v s. grind (arith, over_below) in
    meets_within (on_links w) (λ v ls. Grows w v × Free w name) (λ v ls. Grows w v)
    (links.step w.links event)
    (record {
      ends = λ none. (let g = (k.ends none).grows in let s = o.ends none in (
        (g.entries, g.grows, still _ s.0),
        λ at is. unplaced name w.links s.1 at (over_below w.links at is.link),
      ));
      all = λ v ls r. (let g = (k.all v ls r).grows in
          (g.entries, g.grows, still v (o.all v ls r)));
    })

-- as to a world before
raw_after : (name : List ℕ) (w u : WorldState) → Grows w u
    → Meets (λ v ls. Grows w v × Free w name) (λ v ls. Grows w v)
    (links_step (link_event.Raw name) u)
raw_after name w u g =
    meets_weaker (λ v ls. Grows u v × Free u name) (λ v ls. Grows w v × Free w name)
    (λ v ls. Grows u v) (λ v ls. Grows w v) (links_step (link_event.Raw name) u)
    (λ v ls q. (grows_both w u v g q.0, free_before w u name g q.1))
    (λ v ls q. grows_both w u v g q) (raw_grows name u)

-- these ends are of no link that is over
AreApart : WorldState → List EndState → Type 0
AreApart w ends = (at : ℕ) → IsOver w at → end_of_link (at_place w.links.links at).name ends ≡ None

-- a client is made, with such ends
joined : (w u : WorldState) (members : List MemberState) (ends : List EndState) → Grows w u
    → AreApart w ends → Grows w (record u { members = members; ends = u.ends ++ ends })
unfolding AreApart
joined w u members ends g apart = (
  g.0,
  g.1,
  λ at is. let k = g.2 at is in (
    record {
      link = k.0.link;
      apart = ends_more (at_place u.links.links at).name u.ends ends k.0.apart
          (ap (λ n. end_of_link n ends) k.1 ∙ apart at is);
    },
    k.1,
  ),
)

none_of : (name : List ℕ) (e : EndState) → bytes_eq e.end.link name ≡ false
    → end_of_link name (e ∷ []) ≡ None
none_of name e off = grind arith

one_apart : (w : WorldState) (e : EndState) → Free w e.end.link → AreApart w (e ∷ [])
unfolding Free AreApart
one_apart w e free at is =
    let name = (at_place w.links.links at).name in
    none_of name e (not_equal e.end.link name (λ same. free at is (sym same)))

two_apart : (w : WorldState) (d e : EndState) → Free w d.end.link → Free w e.end.link
    → AreApart w (d ∷ e ∷ [])
unfolding AreApart
two_apart w d e f g at is =
    ends_more (at_place w.links.links at).name (d ∷ []) (e ∷ []) (one_apart w d f at is)
    (one_apart w e g at is)

raw_alone : (name : List ℕ) (w : WorldState) → Growing w (links_step (link_event.Raw name) w)
raw_alone name w =
    let k = raw_grows name w in record { ends = λ none. (k.ends none).0; all = k.all }

connect_grows : (shape : Shape) (name : List ℕ) (setup : Setup) (w : WorldState)
    → setup.mode.shape ≡ shape → Growing w (connect shape name setup w)
connect_grows Single name setup w is =
    let G : WorldState → List Line → Type 0 = λ v ls. Grows w v in
    let place = length w.links.links in
    let link = link_on Main name in
    let u = (links_step (link_event.Raw link) w).state in
    let client = length u.members in
    meets_then (λ v ls. Grows w v × Free w link) G G (links_step (link_event.Raw link) w)
    (join name place place setup) (raw_grows link w)
    (λ none k.
    let j = joined w u (u.members ++ fresh_member name place place setup ∷ [])
    (fresh_ends setup.mode.shape client name place place) k.0
    (subst (λ x. AreApart w (fresh_ends x client name place place)) (sym is)
    (one_apart w (fresh_end client Main name place) k.1)) in meets_stays G G _ j j)
connect_grows Pair name setup w is =
    let G : WorldState → List Line → Type 0 = λ v ls. Grows w v in
    let place = length w.links.links in
    let side = link_on Side name in
    let main = link_on Main name in
    let u = (links_step (link_event.Raw side) w).state in
    let v = (links_step (link_event.Raw main) u).state in
    let client = length v.members in
    by_if (Growing w) (is_some (place_of main w.links)) (refuses w NameTaken) _
    (meets_refuses G G w NameTaken ([], refl, still_same w))
    (meets_then (λ v ls. Grows w v × Free w side) G G (links_step (link_event.Raw side) w) _
    (raw_grows side w)
    (λ none k. meets_then (λ v ls. Grows w v × Free w main) G G
    (links_step (link_event.Raw main) u) (join name (place + 1) place setup)
    (raw_after main w u k.0)
    (λ none2 i.
    let j = joined w v (v.members ++ fresh_member name (place + 1) place setup ∷ [])
    (fresh_ends setup.mode.shape client name (place + 1) place) i.0
    (subst (λ x. AreApart w (fresh_ends x client name (place + 1) place)) (sym is)
    (two_apart w (fresh_end client Side name place) (fresh_end client Main name (place + 1)) k.1
    i.1)) in meets_stays G G _ j j)))

pub making_grows : (shape : Shape) (name : List ℕ) (setup : Setup) (w : WorldState)
    → setup.mode.shape ≡ shape → Growing w (making shape name setup w)
making_grows shape name setup w is =
    let none : Grows w w = ([], refl, still_same w) in
    let G : WorldState → List Line → Type 0 = λ v ls. Grows w v in
    meets_then (λ v ls. v ≡ w) G G (does w w []) (connect shape name setup)
    (meets_does (λ v ls. v ≡ w) G w w [] refl none none)
    (λ ok same. connect_grows shape name setup w is)

client_grows : (name : List ℕ) (mode : ClientMode) (capacity : ℕ) (w : WorldState)
    → Growing w (client_step name mode capacity w)
client_grows name mode capacity w =
    let none : Grows w w = ([], refl, still_same w) in
    let G : WorldState → List Line → Type 0 = λ v ls. Grows w v in
    let setup = setup_by w mode capacity in
    by_if (Growing w) (not (is_served mode)) (refuses w (Refused not_served)) _
    (meets_refuses G G w (Refused not_served) none)
    (by_if (Growing w) (is_taken name w) (refuses w NameTaken) _
    (meets_refuses G G w NameTaken none)
    (making_grows mode.shape name setup w refl))

named_goes : (c : Option ℕ) (move : LinkEnd → Seat → Outcome Seat) → IsOrderly move
    → (w : WorldState) → Goes w (named_does c move w)
named_goes None move orderly w = goes_refused w NoName
named_goes (Some at) move orderly w = goes_client at move orderly w

out_goes : (c : Option ℕ) (name : List ℕ) (count : Option ℕ) (w : WorldState)
    → Goes w (out_step c name count w)
out_goes None name count w = grind (arith, goes_refused, meets_stays, onward_same)
out_goes (Some at) name count w = goes_client at (client.out count) (out_orderly count) w

recv_goes : (c : Option ℕ) (name : List ℕ) (count : Option ℕ) (w : WorldState)
    → Goes w (recv_step c name count w)
recv_goes None name count w = goes_over name (moves.Recv count) w
recv_goes (Some at) name count w = goes_client at (client.receive count) (receive_orderly count) w

pub step_grows : (e : Event) (w : WorldState)
    → Meets (λ v ls. Grows w v) (λ v ls. Grows w v) (step w e)
unfolding step
step_grows (Raw name) w = grind (arith, by_if, meets_refuses, still_same, raw_alone)
step_grows (Say name words) w = as_growing w _ (grind (arith, goes_put, goes_refused))
step_grows (Bytes name bytes) w =
    as_growing w _ (grind (arith, goes_put, goes_refused))
step_grows (Client name mode capacity) w = client_grows name mode capacity w
step_grows (Out name count) w =
    as_growing w _ (out_goes (end_of_link name w.ends) name count w)
step_grows (Serve name count) w = as_growing w _ (goes_over name (moves.Serve count) w)
step_grows (Send name count) w = as_growing w _ (goes_over name (moves.Send count) w)
step_grows (Recv name count) w =
    as_growing w _ (recv_goes (end_of_link name w.ends) name count w)
step_grows (Flow name) w = as_growing w _ (goes_flow (end_of_link name w.ends) name w)
step_grows FlowAll w = as_growing w _ (goes_first (length w.links.links) w)
step_grows (Cut name) w = as_growing w _ (goes_over name moves.Cut w)
step_grows (Now moment) w = as_growing w _ (goes_clock moment w)
step_grows Tick w = as_growing w _ (goes_tick w)
step_grows (Ask name q) w =
    as_growing w _ (named_goes (end_named name w) (turn (call.Ask q))
    (turn_orderly (call.Ask q)) w)
step_grows (Do name words) w =
    as_growing w _ (named_goes (end_named name w) (turn (call.Send words))
    (turn_orderly (call.Send words)) w)
step_grows (Poll name n) w =
    as_growing w _ (named_goes (end_named name w) (turn (call.Poll n))
    (turn_orderly (call.Poll n)) w)
step_grows (Show name) w =
    as_growing w _ (named_goes (end_named name w) (λ e. show) show_orderly w)
