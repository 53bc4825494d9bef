-- How the code of a world plays an event: the links' step and a client's move, in the world.
use Rattle.std.proofs.Common.{◌≡◌, ◌+◌, ◌-◌, ◌<◌, ◌≤◌, ℕ, zero, suc, List, [], ◌∷◌, ◌++◌}
use Rattle.std.proofs.Common.{true, false, Option, Some, None, Result, Ok, Err, length}
use Rattle.std.proofs.Common.{slice_index_or, slice_set, refl, sym, ap, subst, ◌∙◌, append-nil}
use Rattle.std.proofs.Common.{append_assoc, arith, inl, inr, length-append, length-set}
use Rattle.std.specs.Option.{is_some}
use Rattle.std.specs.Result.{is_err}
use Rattle.std.proofs.lemmas.List.{get_or_append_left, get_or_push}
use Rattle.std.proofs.lemmas.List.{get_or_read, get_or-set_other, get_or-set_same, set-get_or}
use Rattle.std.proofs.Math.Numerals.{suc-eq-add-one}
use Rattle.std.proofs.lemmas.Bool.{cases_lt}
use Rattle.shared_cache.specs.declared.log.ClientMode.{ClientMode}
use Rattle.script_text.specs.declared.event.Event.{Event}
use Rattle.script_text.specs.declared.line.Line.{Line}
use Rattle.server_links.specs.declared.fault.WorldFault.{WorldFault}
use Rattle.server_links.specs.declared.fault.WorldFault.TheVariants.{NoName, NameTaken, NoMemory}
use Rattle.server_links.specs.declared.fault.WorldFault.TheVariants.{Refused}
use Rattle.server_links.specs.LinkEvent as link_event
use Rattle.server_links.specs.LinkEvent.{LinkEvent}
use Rattle.server_links.specs.declared.link.LinkMove.{LinkMove}
use Rattle.server_links.specs.declared.link.LinkMove.TheVariants as moves
use Rattle.server_links.specs.LinksState.{AreApart, LinksState, at_place, names}
use Rattle.server_links.specs.LinkSteps as links
use Rattle.server_links.specs.LinkSteps.{over, over_named, place_of}
use Rattle.server_links.specs.Outcome.{Outcome, Gives, Stops, and_then, does, refuses, within}
use Rattle.server_links.specs.Session.{session_at, with_session}
use Rattle.server_links.proofs.Ended.{over_below, over_idle}
use Rattle.server_links.proofs.NameLists.{own_place}
use Rattle.server_links.proofs.Outcomes.{Ends, after_ends, after_stops, gives_reached, gives_then}
use Rattle.server_links.proofs.Outcomes.{gives_within, stops_first, stops_here}
use Rattle.resp_stream.specs.Stream.{Stream}
use Rattle.shared_cache.specs.declared.log.Shape.{Shape}
use Rattle.shared_cache.specs.declared.log.Shape.TheVariants.{Single, Pair}
use Rattle.shared_cache.specs.declared.log.Wire.{Wire}
use Rattle.shared_cache.specs.declared.log.Wire.TheVariants.{Main, Side}
use Rattle.shared_cache.specs.Held.{Setup}
use Rattle.shared_cache.specs.Log.{HasWire}
use Rattle.world_run.specs.WorldState.{AreOver, EndState, HaveClients, IsOver, LinkEnd, MemberState}
use Rattle.world_run.specs.WorldState.{WorldState, end_at, end_of_link, fresh_end, fresh_member}
use Rattle.world_run.specs.WorldState.{link_on, member_at, no_setup}
use Rattle.world_run.specs.Members.{Seat, seat, seat_at, with_seat, world}
use Rattle.world_run.specs.World.{StepGives, Stepped, client_does, client_step, connect, end_named}
use Rattle.world_run.specs.World.{flow_at, flow_first, flow_step, fresh_ends, is_served, is_taken}
use Rattle.world_run.specs.World.{join, links_step, making, named_does, on_links, said_step}
use Rattle.world_run.specs.World.{setup_by, step}
use Rattle.world_run.proofs.Names.{end_named_there}
use Rattle.world_run.proofs.Seats.{by_place}
use Rattle.world_run.proofs.WorldKept.{goes_flow, goes_over, making_grows, step_grows}

pub links_give : {A : Type 0} → (most : ℕ) (e : LinkEvent) (old new : LinksState)
    (members : List MemberState) (ends : List EndState) (lines : List Line)
    (r : Result A WorldFault) (lines' : List Line) → Gives (links.step old e) lines r new lines'
    → Gives (links_step e (world most old members ends)) lines r (world most new members ends)
    lines'
unfolding links_step
links_give most e old new members ends lines r lines' g =
    gives_within (on_links (world most old members ends)) (links.step old e) lines r new lines' g

-- the clock is set
pub clock_gives : (most : ℕ) (old new : LinksState) (members : List MemberState)
    (ends : List EndState) (lines : List Line) (moment : ℕ)
    → new ≡ record { limits = old.limits; now = moment; past = old.past; links = old.links }
    → Gives {A = Unit {0}} (links_step (link_event.Now moment) (world most old members ends)) lines
    (Ok (tt {0})) (world most new members ends) lines
unfolding links.step
clock_gives most old new members ends lines moment is =
    links_give most (link_event.Now moment) old new members ends lines (Ok (tt {0})) lines
    (refl, is, sym (append-nil lines))

-- ---- a client at one of its ends, as the code takes both out of their lists

pub record Found (members : List MemberState) (ends : List EndState) (at : ℕ) (e : EndState)
    (m : MemberState) : Type 0 where
  pub below : at < length ends
  pub end_is : e ≡ slice_index_or ends at e
  pub client_below : e.end.client < length members
  pub client_is : m ≡ slice_index_or members e.end.client m

module _ (members : List MemberState) (ends : List EndState) (at : ℕ) (e : EndState)
    (m : MemberState) (found : Found members ends at e m) where
  pub found_end : e ≡ end_at ends at
  found_end = get_or_read ends at e found.below found.end_is (fresh_end 0 Main [] 0)

  pub found_client : m ≡ member_at members e.end.client
  found_client =
      get_or_read members e.end.client m found.client_below found.client_is
      (fresh_member [] 0 0 no_setup)

  -- what it has read, and its log, may have changed
  pub client_gives : {A : Type 0} → (most : ℕ) (move : LinkEnd → Seat → Outcome Seat)
      (old new : LinksState) (m' : MemberState) (reader : Stream) (lines : List Line)
      (r : Result A WorldFault) (lines' : List Line)
      → Gives (move e.end (seat old m e.reader)) lines r (seat new m' reader) lines'
      → Gives (client_does at move (world most old members ends)) lines r
      (world most new (slice_set members e.end.client m')
      (slice_set ends at (record { end = e.end; reader = reader }))) lines'
  unfolding client_does
  client_gives most move old new m' reader lines r lines' g =
      let w = world most old members ends in
      let seats : seat old m e.reader
      ≡ seat old (member_at members (end_at ends at).end.client) (end_at ends at).reader =
      ap (λ x. seat old x e.reader) found_client
      ∙ ap (λ (x : EndState). seat old (member_at members x.end.client) x.reader) found_end in
      subst (λ (x : EndState). Gives (client_does at move w) lines r
      (world most new (slice_set members x.end.client m')
      (slice_set ends at (record { end = x.end; reader = reader }))) lines') (sym found_end)
      (gives_within (with_seat at w) (move (end_at ends at).end (seat_at at w)) lines r
      (seat new m' reader) lines'
      (subst (λ x. Gives (move (end_at ends at).end x) lines r (seat new m' reader) lines') seats
      (subst (λ (x : EndState). Gives (move x.end (seat old m e.reader)) lines r
      (seat new m' reader) lines') found_end g)))

  -- nothing was read
  pub client_acts : {A : Type 0} → (most : ℕ) (move : LinkEnd → Seat → Outcome Seat)
      (old new : LinksState) (m' : MemberState) (lines : List Line)
      (r : Result A WorldFault) (lines' : List Line)
      → Gives (move e.end (seat old m e.reader)) lines r (seat new m' e.reader) lines'
      → Gives (client_does at move (world most old members ends)) lines r
      (world most new (slice_set members e.end.client m') ends) lines'
  client_acts most move old new m' lines r lines' g =
      let same : slice_set ends at e ≡ ends =
      ap (slice_set ends at) found_end ∙ set-get_or ends at (fresh_end 0 Main [] 0) in
      subst (λ es. Gives (client_does at move (world most old members ends)) lines r
      (world most new (slice_set members e.end.client m') es) lines') same
      (client_gives most move old new m' e.reader lines r lines' g)

  -- the client stays as it is
  pub client_shows : {A : Type 0} → (most : ℕ) (move : LinkEnd → Seat → Outcome Seat)
      (old : LinksState) (lines : List Line) (r : Result A WorldFault) (lines' : List Line)
      → Gives (move e.end (seat old m e.reader)) lines r (seat old m e.reader) lines'
      → Gives (client_does at move (world most old members ends)) lines r
      (world most old members ends) lines'
  client_shows most move old lines r lines' g =
      let same : slice_set members e.end.client m ≡ members =
      ap (slice_set members e.end.client) found_client
      ∙ set-get_or members e.end.client (fresh_member [] 0 0 no_setup) in
      subst (λ ms. Gives (client_does at move (world most old members ends)) lines r
      (world most old ms ends) lines') same
      (client_acts most move old old m lines r lines' g)

  module _ (m' : MemberState) (same : m'.state.setup ≡ m.state.setup) where
    setup_is : (i : ℕ) → (member_at (slice_set members e.end.client m') i).state.setup
        ≡ (member_at members i).state.setup
    setup_is i =
        let none = fresh_member [] 0 0 no_setup in
        by_place ((member_at (slice_set members e.end.client m') i).state.setup
        ≡ (member_at members i).state.setup) i e.end.client
        (λ c. ap (λ j. (member_at (slice_set members e.end.client m') j).state.setup) c
        ∙ ap (λ (x : MemberState). x.state.setup)
        (get_or-set_same members e.end.client m' none found.client_below)
        ∙ same ∙ ap (λ (x : MemberState). x.state.setup) found_client
        ∙ ap (λ j. (member_at members j).state.setup) (sym c))
        (λ n. ap (λ (x : MemberState). x.state.setup)
        (get_or-set_other members e.end.client i m' none n))

    module _ (most most' : ℕ) (old new : LinksState)
        (have : HaveClients (world most old members ends)) where
      -- the ends have their clients
      pub clients_act : HaveClients (world most' new (slice_set members e.end.client m') ends)
      clients_act k lt =
          let was = have k lt in
          let c = (end_at ends k).end.client in
          let count = length-set members e.end.client m' in (
            (let b = was.0 in omega (arith, b, count)),
            subst (λ (s : Setup). HasWire s.mode.shape (end_at ends k).end.wire)
                (sym (setup_is c)) was.1,
          )

      module _ (reader : Stream) where
        abbrev read_end : EndState
        read_end = record { end = e.end; reader = reader }

        end_same : (k : ℕ) → (end_at (slice_set ends at read_end) k).end ≡ (end_at ends k).end
        end_same k =
            let none = fresh_end 0 Main [] 0 in
            by_place ((end_at (slice_set ends at read_end) k).end ≡ (end_at ends k).end) k at
            (λ i. ap (λ j. (end_at (slice_set ends at read_end) j).end) i
            ∙ ap (λ (x : EndState). x.end) (get_or-set_same ends at read_end none found.below)
            ∙ ap (λ (x : EndState). x.end) found_end
            ∙ ap (λ j. (end_at ends j).end) (sym i))
            (λ n. ap (λ (x : EndState). x.end) (get_or-set_other ends at k read_end none n))

        pub clients_read : HaveClients (world most' new (slice_set members e.end.client m')
            (slice_set ends at (record { end = e.end; reader = reader })))
        clients_read k lt =
            let count = length-set ends at read_end in
            subst (λ (x : LinkEnd).
            (x.client < length (slice_set members e.end.client m'))
            × HasWire
            (member_at (slice_set members e.end.client m') x.client).state.setup.mode.shape x.wire)
            (sym (end_same k))
            (clients_act k (omega (arith, lt, count)))

-- The same as the code takes both out of their lists: the end is opened, and what is in it too.
module _ (most : ℕ) (old : LinksState) (members : List MemberState) (ends : List EndState)
    (at : ℕ) (v e : EndState) (client : ℕ) (m : MemberState)
    (have : HaveClients (world most old members ends)) (below : at < length ends)
    (there : v ≡ slice_index_or ends at v) (is : e ≡ v) (whose : client ≡ e.end.client)
    (client_is : m ≡ slice_index_or members client m) where
  pub taken_out : Found members ends at e m
  taken_out =
      let end_is : e ≡ slice_index_or ends at e =
      is ∙ there ∙ ap (slice_index_or ends at) (sym is) in
      record {
        below = below;
        end_is = end_is;
        client_below = subst (λ (x : EndState). x.end.client < length members)
            (sym (get_or_read ends at e below end_is (fresh_end 0 Main [] 0))) (have at below).0;
        client_is = subst (λ i. m ≡ slice_index_or members i m) whose client_is;
      }

  pub taken_gives : {A : Type 0} → (move : LinkEnd → Seat → Outcome Seat)
      (new : LinksState) (m' : MemberState) (reader : Stream) (lines : List Line)
      (r : Result A WorldFault) (lines' : List Line)
      → Gives (move e.end (seat old m e.reader)) lines r (seat new m' reader) lines'
      → Gives (client_does at move (world most old members ends)) lines r
      (world most new (slice_set members client m')
      (slice_set ends at (record { end = e.end; reader = reader }))) lines'
  taken_gives move new m' reader lines r lines' g =
      subst (λ i. Gives (client_does at move (world most old members ends)) lines r
      (world most new (slice_set members i m')
      (slice_set ends at (record { end = e.end; reader = reader }))) lines') (sym whose)
      (client_gives members ends at e m taken_out most move old new m' reader lines r lines' g)

  pub taken_acts : {A : Type 0} → (move : LinkEnd → Seat → Outcome Seat)
      (new : LinksState) (m' : MemberState) (lines : List Line)
      (r : Result A WorldFault) (lines' : List Line)
      → Gives (move e.end (seat old m e.reader)) lines r (seat new m' e.reader) lines'
      → Gives (client_does at move (world most old members ends)) lines r
      (world most new (slice_set members client m') ends) lines'
  taken_acts move new m' lines r lines' g =
      subst (λ i. Gives (client_does at move (world most old members ends)) lines r
      (world most new (slice_set members i m') ends) lines') (sym whose)
      (client_acts members ends at e m taken_out most move old new m' lines r lines' g)

  module _ (m' : MemberState) (same : m'.state.setup ≡ m.state.setup) (new : LinksState) where
    pub taken_clients : HaveClients (world most new (slice_set members client m') ends)
    taken_clients =
        subst (λ i. HaveClients (world most new (slice_set members i m') ends)) (sym whose)
        (clients_act members ends at e m taken_out m' same most most old new have)

    pub read_clients : (reader : Stream)
        → HaveClients (world most new (slice_set members client m')
        (slice_set ends at (record { end = e.end; reader = reader })))
    read_clients reader =
        subst (λ i. HaveClients (world most new (slice_set members i m')
        (slice_set ends at (record { end = e.end; reader = reader })))) (sym whose)
        (clients_read members ends at e m taken_out m' same most most old new have reader)

-- ---- what is refused

pub no_name : (w : WorldState) (m : Stepped) (lines : List Line) → m ≡ refuses w NoName
    → Stops m lines NoName w lines
no_name w m lines e = grind (arith, append-nil)

pub name_taken : (w : WorldState) (m : Stepped) (lines : List Line) → m ≡ refuses w NameTaken
    → Stops m lines NameTaken w lines
name_taken w m lines e = grind (arith, append-nil)

pub is_refused : (n : ℕ) (w : WorldState) (m : Stepped) (lines : List Line)
    → m ≡ refuses w (Refused n) → Stops m lines (Refused n) w lines
is_refused n w m lines e = grind (arith, append-nil)

-- ---- a client by its name

pub named_none : (name : List ℕ) (move : LinkEnd → Seat → Outcome Seat) (w : WorldState)
    (lines : List Line) → end_named name w ≡ None
    → Stops (named_does (end_named name w) move w) lines NoName w lines
named_none name move w lines none =
    no_name w (named_does (end_named name w) move w) lines
    (ap (λ c. named_does c move w) none)

-- of the world as its code has it
module _ (most : ℕ) (name : List ℕ) (now : WorldState) (old : LinksState)
    (members : List MemberState) (ends : List EndState) (at : ℕ) (e : EndState) (client : ℕ)
    (m : MemberState) (view : world most old members ends ≡ now)
    (have : HaveClients (world most old members ends)) (named : end_named name now ≡ Some at)
    (end_is : e ≡ slice_index_or ends at e) (whose : client ≡ e.end.client)
    (client_is : m ≡ slice_index_or members client m) where
  named_below : at < length ends
  named_below =
      subst (λ (w : WorldState). at < length w.ends) (sym view)
      (end_named_there name now at named).0

  named_by : {A : Type 0} → (move : LinkEnd → Seat → Outcome Seat) (lines : List Line)
      (r : Result A WorldFault) (v : WorldState) (lines' : List Line)
      → Gives (client_does at move (world most old members ends)) lines r v lines'
      → Gives (named_does (end_named name now) move now) lines r v lines'
  named_by move lines r v lines' g =
      subst (λ c. Gives (named_does c move now) lines r v lines') (sym named)
      (subst (λ w. Gives (client_does at move w) lines r v lines') view g)

  pub named_acts : {A : Type 0} → (move : LinkEnd → Seat → Outcome Seat) (m' : MemberState)
      (lines : List Line) (r : Result A WorldFault) (lines' : List Line)
      → ((l : LinkEnd) (s : Stream) → Gives (move l (seat old m s)) lines r (seat old m' s) lines')
      → Gives (named_does (end_named name now) move now) lines r
      (world most old (slice_set members client m') ends) lines'
  named_acts move m' lines r lines' g =
      named_by move lines r (world most old (slice_set members client m') ends) lines'
      (taken_acts most old members ends at e e client m have named_below end_is refl whose client_is
      move old m' lines r lines' (g e.end e.reader))

  pub named_clients : (m' : MemberState) → m'.state.setup ≡ m.state.setup
      → HaveClients (world most old (slice_set members client m') ends)
  named_clients m' same =
      taken_clients most old members ends at e e client m have named_below end_is refl whose
      client_is m' same old

  pub named_shows : {A : Type 0} → (move : LinkEnd → Seat → Outcome Seat) (lines : List Line)
      (r : Result A WorldFault) (lines' : List Line)
      → ((l : LinkEnd) (s : Stream) → Gives (move l (seat old m s)) lines r (seat old m s) lines')
      → Gives (named_does (end_named name now) move now) lines r (world most old members ends)
      lines'
  named_shows move lines r lines' g =
      named_by move lines r (world most old members ends) lines'
      (client_shows members ends at e m
      (taken_out most old members ends at e e client m have named_below end_is refl whose client_is)
      most move old lines r lines' (g e.end e.reader))

-- ---- a link is named

-- it is one of a client
pub owned : {A : Type 0} → (f : Option ℕ → Stepped) (link : List ℕ)
    (move : LinkEnd → Seat → Outcome Seat) (now old : WorldState) (at : ℕ) (lines : List Line)
    (r : Result A WorldFault) (v : WorldState) (lines' : List Line) → old ≡ now
    → end_of_link link now.ends ≡ Some at → f (Some at) ≡ client_does at move now
    → Gives (client_does at move old) lines r v lines'
    → Gives (f (end_of_link link now.ends)) lines r v lines'
owned f link move now old at lines r v lines' view found what g =
    subst (λ c. Gives (f c) lines r v lines') (sym found)
    (subst (λ (x : Stepped). Gives x lines r v lines') (sym what)
    (subst (λ w. Gives (client_does at move w) lines r v lines') view g))

pub unowned : {A : Type 0} → (most : ℕ) (f : Option ℕ → Stepped) (link : List ℕ) (e : LinkEvent)
    (now : WorldState) (old new : LinksState) (members : List MemberState) (ends : List EndState)
    (lines : List Line) (r : Result A WorldFault) (lines' : List Line)
    → world most old members ends ≡ now → end_of_link link now.ends ≡ None
    → f None ≡ links_step e now → Gives (links.step old e) lines r new lines'
    → Gives (f (end_of_link link now.ends)) lines r (world most new members ends) lines'
unowned most f link e now old new members ends lines r lines' view none what g =
    grind (arith, links_give)

-- ---- a raw link is told what to say

pub a_some : {A : Type 0} → (o : Option A) → is_some o ≡ true → (a : A) × (o ≡ Some a)
a_some o e = grind arith

pub a_none : {A : Type 0} → (o : Option A) → is_some o ≡ false → o ≡ None
a_none o e = grind arith

pub put_nowhere : (name bytes : List ℕ) (w : WorldState) (lines : List Line)
    → place_of name w.links ≡ None
    → Stops (links_step (link_event.Put name bytes) w) lines NoName w lines
unfolding links.step
put_nowhere name bytes w lines none =
    let e : LinkEvent = link_event.Put name bytes in
    let r : Result (Unit {0}) WorldFault = Err NoName in
    links_give w.log_max e w.links w.links w.members w.ends lines r lines
    (grind (arith, append-nil))

-- where the link is no client's
pub said_stops : (name bytes : List ℕ) (w : WorldState) (lines : List Line) (fault : WorldFault)
    → end_of_link name w.ends ≡ None
    → Stops (links_step (link_event.Put name bytes) w) lines fault w lines
    → Stops (said_step (end_of_link name w.ends) name bytes w) lines fault w lines
said_stops name bytes w lines fault none g = grind arith

-- memory runs out before anything is said
pub put_before : (name bytes : List ℕ) (at : ℕ) (w : WorldState) (lines : List Line)
    → place_of name w.links ≡ Some at
    → Stops (links_step (link_event.Put name bytes) w) lines NoMemory w lines
unfolding links.step over within
put_before name bytes at w lines found =
    let ls = w.links in
    let e : LinkEvent = link_event.Put name bytes in
    let r : Result (Unit {0}) WorldFault = Err NoMemory in
    let same : with_session at ls (session_at at ls) ≡ ls = grind (arith, set-get_or) in
    links_give w.log_max e ls ls w.members w.ends lines r lines
    (grind (arith, stops_here))

-- ---- a client is made

pub client_unserved : (name : List ℕ) (mode : ClientMode) (capacity : ℕ) (w : WorldState)
    → is_served mode ≡ false → client_step name mode capacity w ≡ refuses w (Refused 0)
client_unserved name mode capacity w off = grind arith

pub client_taken : (name : List ℕ) (mode : ClientMode) (capacity : ℕ) (w : WorldState)
    → is_served mode ≡ true → is_taken name w ≡ true
    → client_step name mode capacity w ≡ refuses w NameTaken
client_taken name mode capacity w on taken = grind arith

pub client_making : (name : List ℕ) (mode : ClientMode) (capacity : ℕ) (w : WorldState)
    → is_served mode ≡ true → is_taken name w ≡ false
    → client_step name mode capacity w ≡ making mode.shape name (setup_by w mode capacity) w
client_making name mode capacity w on free = grind arith

-- memory runs out before its links are made
pub making_before : (shape : Shape) (name : List ℕ) (setup : Setup) (w : WorldState)
    (lines : List Line) → Stops (making shape name setup w) lines NoMemory w lines
making_before shape name setup w lines =
    stops_first (does w w []) (connect shape name setup) lines NoMemory w lines
    (stops_here (does w w []) w lines refl)

abbrev pub client_made : Shape → List ℕ → ClientMode → ℕ → WorldState → Stepped
client_made shape name mode capacity w = making shape name (setup_by w mode capacity) w

-- as its code has it before and after
pub made_as : {A : Type 0} → (shape : Shape) (name : List ℕ) (mode : ClientMode) (capacity : ℕ)
    (old now v u : WorldState) (lines : List Line) (r : Result A WorldFault)
    (lines' : List Line) → old ≡ now → u ≡ v
    → Gives (client_made shape name mode capacity old) lines r v lines'
    → Gives (client_made shape name mode capacity now) lines r u lines'
made_as shape name mode capacity old now v u lines r lines' view is g =
    subst (λ x. Gives (client_made shape name mode capacity now) lines r x lines') (sym is)
    (subst (λ w. Gives (client_made shape name mode capacity w) lines r v lines') view g)

-- memory ran out before that
pub made_before : (shape : Shape) (name : List ℕ) (mode : ClientMode) (capacity : ℕ)
    (old now u : WorldState) (lines : List Line) → old ≡ now → u ≡ old
    → Stops (client_made shape name mode capacity now) lines NoMemory u lines
made_before shape name mode capacity old now u lines view is =
    let r : Result (Unit {0}) WorldFault = Err NoMemory in
    made_as shape name mode capacity old now old u lines r lines view is
    (making_before shape name (setup_by old mode capacity) old lines)

pub an_err : {A E : Type 0} → (r : Result A E) → is_err r ≡ true → (e : E) × (r ≡ Err e)
an_err r e = grind arith

pub an_ok : {A E : Type 0} → (r : Result A E) → is_err r ≡ false → (a : A) × (r ≡ Ok a)
an_ok r e = grind arith

-- of the world as its code has it
module _ (name : List ℕ) (setup : Setup) (most : ℕ) (old : LinksState)
    (members : List MemberState) (ends : List EndState) (lines : List Line) where
  abbrev w : WorldState
  w = world most old members ends

  abbrev place : ℕ
  place = length old.links

  abbrev client : ℕ
  client = length members

  abbrev raw : Wire → WorldState → Stepped
  raw u v = links_step (link_event.Raw (link_on u name)) v

  making_stops : (shape : Shape) (fault : WorldFault) (v : WorldState) (lines' : List Line)
      → Stops (connect shape name setup w) lines fault v lines'
      → Stops (making shape name setup w) lines fault v lines'
  making_stops shape fault v lines' g =
      after_stops (does w w []) (connect shape name setup) lines w lines fault v lines'
      (refl, refl, sym (append-nil lines)) g

  making_ends : (shape : Shape) (v : WorldState) (lines' : List Line)
      → Ends (connect shape name setup w) lines v lines'
      → Ends (making shape name setup w) lines v lines'
  making_ends shape v lines' g =
      after_ends (does w w []) (connect shape name setup) lines w lines v lines'
      (refl, refl, sym (append-nil lines)) g

  -- a client over one link

  pub one_stops : (fault : WorldFault) (new : LinksState) (lines' : List Line)
      → Stops (links.step old (link_event.Raw (link_on Main name))) lines fault new lines'
      → Stops (making Single name setup w) lines fault (world most new members ends) lines'
  one_stops fault new lines' g =
      let r : Result (Unit {0}) WorldFault = Err fault in
      let t = world most new members ends in
      making_stops Single fault t lines'
      (stops_first (raw Main w) (join name place place setup) lines fault t lines'
      (links_give most (link_event.Raw (link_on Main name)) old new members ends lines r lines' g))

  pub one_ends : setup.mode.shape ≡ Single → (new : LinksState) (lines' : List Line)
      → Ends (links.step old (link_event.Raw (link_on Main name))) lines new lines'
      → Ends (making Single name setup w) lines
      (world most new (members ++ fresh_member name place place setup ∷ [])
      (ends ++ fresh_end client Main name place ∷ [])) lines'
  one_ends shape new lines' g =
      let r : Result (Unit {0}) WorldFault = Ok (tt {0}) in
      let t = world most new (members ++ fresh_member name place place setup ∷ [])
      (ends ++ fresh_end client Main name place ∷ []) in
      let made : t ≡ (join name place place setup (world most new members ends)).state =
      ap (λ h. world most new (members ++ fresh_member name place place setup ∷ [])
      (ends ++ fresh_ends h client name place place)) (sym shape) in
      making_ends Single t lines'
      (after_ends (raw Main w) (join name place place setup) lines (world most new members ends)
      lines' t lines'
      (links_give most (link_event.Raw (link_on Main name)) old new members ends lines r lines' g)
      (refl, made, sym (append-nil lines')))

  -- over two

  pub two_taken : is_some (place_of (link_on Main name) old) ≡ true
      → Stops (making Pair name setup w) lines NameTaken w lines
  two_taken taken =
      making_stops Pair NameTaken w lines
      (name_taken w (connect Pair name setup w) lines (grind arith))

  module _ (free : is_some (place_of (link_on Main name) old) ≡ false) where
    abbrev both : Stepped
    both = and_then (raw Side w)
        (λ v. and_then (raw Main v) (join name (place + 1) place setup))

    connecting : connect Pair name setup w ≡ both
    connecting = grind arith

    pub two_stops : (fault : WorldFault) (new : LinksState) (lines' : List Line)
        → Stops (links.step old (link_event.Raw (link_on Side name))) lines fault new lines'
        → Stops (making Pair name setup w) lines fault (world most new members ends) lines'
    two_stops fault new lines' g =
        let r : Result (Unit {0}) WorldFault = Err fault in
        let t = world most new members ends in
        making_stops Pair fault t lines'
        (subst (λ (x : Stepped). Stops x lines fault t lines') (sym connecting)
        (stops_first (raw Side w) _ lines fault t lines'
        (links_give most (link_event.Raw (link_on Side name)) old new members ends lines r lines'
        g)))

    module _ (new : LinksState) (lines1 : List Line)
        (first : Ends (links.step old (link_event.Raw (link_on Side name))) lines new lines1) where
      side_made : Ends (raw Side w) lines (world most new members ends) lines1
      side_made =
          let r : Result (Unit {0}) WorldFault = Ok (tt {0}) in
          links_give most (link_event.Raw (link_on Side name)) old new members ends lines r lines1
          first

      pub main_stops : (fault : WorldFault) (last : LinksState) (lines' : List Line)
          → Stops (links.step new (link_event.Raw (link_on Main name))) lines1 fault last lines'
          → Stops (making Pair name setup w) lines fault (world most last members ends) lines'
      main_stops fault last lines' g =
          let r : Result (Unit {0}) WorldFault = Err fault in
          let v = world most new members ends in
          let t = world most last members ends in
          making_stops Pair fault t lines'
          (subst (λ (x : Stepped). Stops x lines fault t lines') (sym connecting)
          (after_stops (raw Side w) _ lines v lines1 fault t lines' side_made
          (stops_first (raw Main v) (join name (place + 1) place setup) lines1 fault t lines'
          (links_give most (link_event.Raw (link_on Main name)) new last members ends lines1 r
          lines' g))))

      pub two_ends : setup.mode.shape ≡ Pair → (last : LinksState) (lines' : List Line)
          → Ends (links.step new (link_event.Raw (link_on Main name))) lines1 last lines'
          → Ends (making Pair name setup w) lines
          (world most last (members ++ fresh_member name (place + 1) place setup ∷ [])
          ((ends ++ fresh_end client Side name place ∷ [])
          ++ fresh_end client Main name (place + 1) ∷ [])) lines'
      two_ends shape last lines' g =
          let r : Result (Unit {0}) WorldFault = Ok (tt {0}) in
          let v = world most new members ends in
          let u = world most last members ends in
          let main = place + 1 in
          let t = world most last (members ++ fresh_member name main place setup ∷ [])
          ((ends ++ fresh_end client Side name place ∷ []) ++ fresh_end client Main name main ∷ [])
          in
          let made : t ≡ (join name main place setup u).state =
          ap (λ es. world most last (members ++ fresh_member name main place setup ∷ []) es)
          (append_assoc ends (fresh_end client Side name place ∷ [])
          (fresh_end client Main name main ∷ []))
          ∙ ap (λ h. world most last (members ++ fresh_member name main place setup ∷ [])
          (ends ++ fresh_ends h client name main place)) (sym shape) in
          making_ends Pair t lines'
          (subst (λ (x : Stepped). Ends x lines t lines') (sym connecting)
          (after_ends (raw Side w) _ lines v lines1 t lines' side_made
          (after_ends (raw Main v) (join name main place setup) lines1 u lines' t lines'
          (links_give most (link_event.Raw (link_on Main name)) new last members ends lines1 r
          lines' g)
          (refl, made, sym (append-nil lines')))))

-- the ends have their clients
module _ (most most' : ℕ) (old new : LinksState) (members : List MemberState)
    (ends : List EndState) (have : HaveClients (world most old members ends)) where
  -- one more client
  member_more : (m : MemberState) → HaveClients (world most' new (members ++ m ∷ []) ends)
  member_more m k lt =
      let was = have k lt in
      let c = (end_at ends k).end.client in
      let count = length-append members (m ∷ []) in (
        (let b = was.0 in omega (arith, b, count)),
        subst (λ (x : MemberState). HasWire x.state.setup.mode.shape (end_at ends k).end.wire)
            (sym (get_or_append_left members (m ∷ []) (fresh_member [] 0 0 no_setup) c was.0))
            was.1,
      )

  -- one more end
  end_more : (e : EndState) → e.end.client < length members
      → HasWire (member_at members e.end.client).state.setup.mode.shape e.end.wire
      → HaveClients (world most' new members (ends ++ e ∷ []))
  end_more e below has k lt = elim (cases_lt k (length ends)) [
    | inl before ↦
        subst (λ (x : LinkEnd). (x.client < length members)
        × HasWire (member_at members x.client).state.setup.mode.shape x.wire)
        (sym (ap (λ (x : EndState). x.end)
        (get_or_append_left ends (e ∷ []) (fresh_end 0 Main [] 0) k before))) (have k before)
    | inr ge ↦
        let size = length-append ends (e ∷ []) in
        let at : k ≡ length ends = omega (arith, lt, ge, size) in
        subst (λ (x : LinkEnd). (x.client < length members)
        × HasWire (member_at members x.client).state.setup.mode.shape x.wire)
        (sym (ap (λ (x : EndState). x.end)
        (get_or_push ends e (fresh_end 0 Main [] 0) k (sym at)))) (below, has)
  ]

module _ (most most' : ℕ) (old new : LinksState) (members : List MemberState)
    (ends : List EndState) (m : MemberState) (name : List ℕ)
    (have : HaveClients (world most old members ends)) where
  abbrev more : List MemberState
  more = members ++ m ∷ []

  last_below : length members < length more
  last_below = let count = length-append members (m ∷ []) in omega (arith, count)

  have_more : HaveClients (world most' new more ends)
  have_more = member_more most most' old new members ends have m

  pub one_clients : (at : ℕ) → HaveClients (world most' new more
      (ends ++ fresh_end (length members) Main name at ∷ []))
  one_clients at =
      end_more most' most' new new more ends have_more (fresh_end (length members) Main name at)
      last_below tt

  pub two_clients : m.state.setup.mode.shape ≡ Pair → (first second : ℕ)
      → HaveClients (world most' new more
      ((ends ++ fresh_end (length members) Side name first ∷ [])
      ++ fresh_end (length members) Main name second ∷ []))
  two_clients shape first second =
      let none = fresh_member [] 0 0 no_setup in
      let has : HasWire (member_at more (length members)).state.setup.mode.shape Side =
      subst (λ (x : MemberState). HasWire x.state.setup.mode.shape Side)
      (sym (get_or_push members m none (length members) refl))
      (subst (λ s. HasWire s Side) (sym shape) tt) in
      end_more most' most' new new more
      (ends ++ fresh_end (length members) Side name first ∷ [])
      (end_more most' most' new new more ends have_more
      (fresh_end (length members) Side name first) last_below has)
      (fresh_end (length members) Main name second) last_below tt

-- ---- all links flow

-- one more link flows
pub flow_more : {A : Type 0} → (n : ℕ) (w v : WorldState) (lines lines1 : List Line)
    (r : Result A WorldFault) (u : WorldState) (lines2 : List Line)
    → Ends (flow_first n w) lines v lines1 → Gives (flow_at n v) lines1 r u lines2
    → Gives (flow_first (n + 1) w) lines r u lines2
unfolding flow_first
flow_more n w v lines lines1 r u lines2 h g =
    subst (λ k. Gives (flow_first k w) lines r u lines2) (suc-eq-add-one n)
    (gives_then (flow_first n w) (flow_at n) lines (tt {0}) v lines1 r u lines2 h g)

-- a fault of one is the fault of all that follow
pub flow_stops : (n more : ℕ) (w : WorldState) (lines : List Line) (fault : WorldFault)
    (u : WorldState) (lines' : List Line) → Stops (flow_first n w) lines fault u lines'
    → Stops (flow_first (n + more) w) lines fault u lines'
unfolding flow_first
flow_stops n zero w lines fault u lines' h = grind arith
flow_stops n (suc more) w lines fault u lines' h =
    subst (λ k. Stops (flow_first k w) lines fault u lines')
    (let e : suc (n + more) ≡ n + suc more = omega arith in e)
    (stops_first (flow_first (n + more) w) (flow_at (n + more)) lines fault u lines'
    (flow_stops n more w lines fault u lines' h))

-- a link that is over does nothing
flow_over : (at : ℕ) (w : WorldState) (lines : List Line) → AreApart (names w.links.links)
    → IsOver w at → Ends (flow_at at w) lines w lines
flow_over at w lines apart is =
    let ls = w.links in
    let name = (at_place ls.links at).name in
    let r : Result (Unit {0}) WorldFault = Ok (tt {0}) in
    let found : place_of name ls ≡ Some at = grind (arith, own_place, over_below) in
    subst (λ c. Ends (flow_step c name w) lines w lines) (sym is.apart)
    (links_give w.log_max (link_event.Over name moves.Flow) ls ls w.members w.ends lines r lines
    (over_idle name ls at lines found is.link))

-- nor do so many
flow_past : (n more : ℕ) (w v : WorldState) (lines lines1 : List Line)
    → AreApart (names v.links.links) → ((k : ℕ) → n ≤ k → k < n + more → IsOver v k)
    → Ends (flow_first n w) lines v lines1 → Ends (flow_first (n + more) w) lines v lines1
flow_past n zero w v lines lines1 apart over h = grind arith
flow_past n (suc more) w v lines lines1 apart over h =
    let r : Result (Unit {0}) WorldFault = Ok (tt {0}) in
    subst (λ k. Ends (flow_first k w) lines v lines1)
    (let e : (n + more) + 1 ≡ n + suc more = omega arith in e)
    (flow_more (n + more) w v lines lines1 r v lines1
    (flow_past n more w v lines lines1 apart (λ k a b. over k a (omega (arith, b))) h)
    (flow_over (n + more) v lines1 apart (over (n + more) (omega arith) (omega arith))))

pub flow_on : (n to : ℕ) (w v : WorldState) (lines lines1 : List Line) → n ≤ to
    → AreApart (names v.links.links) → ((k : ℕ) → n ≤ k → k < to → IsOver v k)
    → Ends (flow_first n w) lines v lines1 → Ends (flow_first to w) lines v lines1
flow_on n to w v lines lines1 le apart over h =
    let up : n + (to - n) ≡ to = omega (arith, le) in
    subst (λ k. Ends (flow_first k w) lines v lines1) up
    (flow_past n (to - n) w v lines lines1 apart (λ k a b. over k a (omega (arith, b, up))) h)

-- ---- what is over stays so

pub over_step : {A : Type 0} → (next : List ℕ) (e : Event) (w v : WorldState) (lines : List Line)
    (r : Result A WorldFault) (lines' : List Line) → Gives (step w e) lines r v lines'
    → AreOver next w → AreOver next v
over_step next e w v lines r lines' g are from at order below =
    let h = gives_reached (step w e) lines r v lines' g in
    (((step_grows e w).all v h.0 h.1).2 at (are from at order below)).0

-- of the world as its code has it
pub still_over : (next : List ℕ) (e : Event) (old now new : WorldState) (lines : List Line)
    (r : Result (Unit {0}) WorldFault) (lines' : List Line) → old ≡ now
    → StepGives now e lines r new lines' → AreOver next old → AreOver next new
still_over next e old now new lines r lines' view g are =
    over_step next e now new lines r lines' g (subst (AreOver next) view are)

pub over_making : {A : Type 0} → (next : List ℕ) (shape : Shape) (name : List ℕ) (setup : Setup)
    (old now new : WorldState) (lines : List Line) (r : Result A WorldFault)
    (lines' : List Line) → old ≡ now → setup.mode.shape ≡ shape
    → Gives (making shape name setup now) lines r new lines' → AreOver next old → AreOver next new
over_making next shape name setup old now new lines r lines' view is g are from at order below =
    let h = gives_reached (making shape name setup now) lines r new lines' g in
    (((making_grows shape name setup now is).all new h.0 h.1).2 at
    (subst (AreOver next) view are from at order below)).0

pub over_links : {A : Type 0} → (next : List ℕ) (name : List ℕ) (move : LinkMove)
    (w v : WorldState) (lines : List Line) (r : Result A WorldFault) (lines' : List Line)
    → Gives (links_step (link_event.Over name move) w) lines r v lines'
    → AreOver next w → AreOver next v
over_links next name move w v lines r lines' g are from at order below =
    let m = links_step (link_event.Over name move) w in
    let h = gives_reached m lines r v lines' g in
    (((goes_over name move w).all v h.0 h.1).still at (are from at order below)).0

pub flow_still : {A : Type 0} → (n : ℕ) (w v : WorldState) (lines : List Line)
    (r : Result A WorldFault) (lines' : List Line) → Gives (flow_at n w) lines r v lines'
    → (at : ℕ) → IsOver w at → IsOver v at
flow_still n w v lines r lines' g at is =
    let h = gives_reached (flow_at n w) lines r v lines' g in
    let name = (at_place w.links.links n).name in
    (((goes_flow (end_of_link name w.ends) name w).all v h.0 h.1).still at is).0

pub over_flow : {A : Type 0} → (next : List ℕ) (c : Option ℕ) (name : List ℕ) (w v : WorldState)
    (lines : List Line) (r : Result A WorldFault) (lines' : List Line)
    → Gives (flow_step c name w) lines r v lines' → AreOver next w → AreOver next v
over_flow next c name w v lines r lines' g are from at order below =
    let h = gives_reached (flow_step c name w) lines r v lines' g in
    (((goes_flow c name w).all v h.0 h.1).still at (are from at order below)).0
