-- What the headline says of a schedule: one serial history, with each request once, and replies
-- that are its replies; and what a client holds is what the server would answer.
use Rattle.std.specs.Prelude.{◌≡◌, ◌<◌, ℕ, List, [], ◌∷◌, ◌++◌, Bool, true, false}
use Rattle.std.specs.Prelude.{◌≤◌, if◌then◌else◌, length, take, slice_get}
use Rattle.std.specs.declared.option.Option.{Option}
use Rattle.std.specs.declared.option.Option.TheVariants.{None, Some}
use Rattle.std.specs.List.{flat_map, list_any}
use Rattle.std.specs.Str.{bytes_eq}
use Rattle.resp_value.specs.Lists.{IsPrefix}
use Rattle.resp_value.specs.Spelling.{request_spelling}
use Rattle.resp_value.specs.ValueTree.{tree_of}
use Rattle.resp_value.specs.Carried.{carried}
use Rattle.resp_value.specs.declared.value.Value.{Value}
use Rattle.command_words.specs.Queries.{key_of}
use Rattle.command_words.specs.Effects.{answer}
use Rattle.serial_model.specs.declared.history.Limits.{Limits}
use Rattle.serial_model.specs.declared.history.Entry.{Entry}
use Rattle.serial_model.specs.declared.history.Entry.TheVariants.{Run}
use Rattle.serial_model.specs.History.{Sending, keyspace, sent}
use Rattle.shared_cache.specs.declared.log.Wire.{Wire}
use Rattle.shared_cache.specs.declared.log.Wire.TheVariants.{Main, Side}
use Rattle.shared_cache.specs.ClientFields.{IsClientMode}
use Rattle.shared_cache.specs.Log.{HasWire}
use Rattle.shared_cache.specs.Notices.{invalidates}
use Rattle.shared_cache.specs.Held.{held, held_for}
use Rattle.shared_cache.specs.Laws.{Every, LegalLog, gots}
use Rattle.shared_cache.specs.Out.{out as written, taken as taken_out}
use Rattle.currency.specs.Links.{Meet, run_of}
use Rattle.currency.specs.Points.{replied, up_to}
use Rattle.currency.specs.Current.{HasPoint, IsCurrent, point}
use Rattle.currency.specs.CompleteExactly.{CompleteExactly}
use Rattle.cache_laws.specs.HeldExactly.{HeldExactly}
use Rattle.tracking_laws.specs.Laws.{ToldExactly}
use Rattle.script_text.specs.declared.event.Event.{Event}
use Rattle.script_text.specs.declared.event.Event.TheVariants.{Raw, Say, Bytes, Client, Out, Serve}
use Rattle.script_text.specs.declared.event.Event.TheVariants.{Send, Recv, Flow, FlowAll, Cut, Ask}
use Rattle.script_text.specs.declared.event.Event.TheVariants.{Do, Poll, Show, Now, Tick}
use Rattle.script_text.specs.Valid.{IsValid}
use Rattle.script_text.specs.declared.line.Line.{Line}
use Rattle.script_text.specs.declared.line.Line.TheVariants as line
use Rattle.server_links.specs.declared.fault.WorldFault.{WorldFault}
use Rattle.server_links.specs.Faults.{IsRefusal}
use Rattle.server_links.specs.LinksState.{at_place}
use Rattle.server_links.specs.LinkSteps.{place_of}
use Rattle.server_links.specs.OneHistory.{History, PartServes, Serves, read_on}
use Rattle.server_links.specs.Outcome.{Reached}
use Rattle.world_run.specs.WorldState.{HaveClients, HaveEnds, MemberState, WorldState, client_at}
use Rattle.world_run.specs.WorldState.{end_at, end_of_link, link_on, member_at, place_on}
use Rattle.world_run.specs.WorldState.{start_with}
use Rattle.world_run.specs.Members.{client_of}
use Rattle.world_run.specs.ScheduleLog.{LogsStand}
use Rattle.world_run.specs.WorldTranscript.{after, heard, transcript}
use Rattle.world_run.specs.World.{end_named, step}
use Rattle.world_run.specs.WorldClock.{KeepsTime}
use Rattle.world_run.specs.WorldFlows.{FlowDelivers}

-- ---- what is put on a link

abbrev pub said_by : List ℕ → Event → List ℕ
said_by link (Raw name) = []
said_by link (Say name words) = if bytes_eq name link then request_spelling words else []
said_by link (Bytes name bytes) = if bytes_eq name link then bytes else []
said_by link (Client name mode capacity) = []
said_by link (Out name count) = []
said_by link (Serve name count) = []
said_by link (Send name count) = []
said_by link (Recv name count) = []
said_by link (Flow name) = []
said_by link FlowAll = []
said_by link (Cut name) = []
said_by link (Now moment) = []
said_by link Tick = []
said_by link (Ask name q) = []
said_by link (Do name words) = []
said_by link (Poll name n) = []
said_by link (Show name) = []

-- the bytes that a schedule says on a raw link, in order
abbrev pub said_to : List ℕ → List Event → List ℕ
said_to link events = flat_map (said_by link) events

-- the bytes that a client took out for a link: the first of those of its commands there
abbrev pub taken_bytes : Wire → MemberState → List ℕ
taken_bytes u m =
    take (taken_out m.state.setup u m.state.past) (written m.state.setup u m.state.past)

-- what was put on a link: what its client took out, or what the schedule said there
abbrev pub put_by : Option ℕ → WorldState → List ℕ → List Event → List ℕ
put_by None w link events = said_to link events
put_by (Some at) w link events = taken_bytes (end_at w.ends at).end.wire (client_at w at)

abbrev pub put_on : WorldState → List ℕ → List Event → List ℕ
put_on w link events = put_by (end_of_link link w.ends) w link events

-- ---- one client

-- A client has its links, whose connections are its own; its log is a legal one; commands run in
-- order and only those that it sent, and what it got is what it was sent, in order. It holds
-- exactly what its log says, and is complete exactly to where something waits for it.
pub record Serviced (w : WorldState) (m : MemberState) : Type 0 where
  pub links : (u : Wire) → HasWire m.state.setup.mode.shape u
      → place_of (link_on u m.name) w.links ≡ Some (place_on u m)
  pub mode : IsClientMode m.state.setup.mode
  pub capacity : 0 < m.state.setup.capacity
  pub legal : LegalLog m.state.setup m.state.past
  pub meet : Meet w.links.limits (client_of m) w.links.past m.state.past
  pub complete : CompleteExactly w.links.limits (client_of m) w.links.past m.state.past
  pub holds : HeldExactly m.state.setup m.state.past

-- what a client holds is current, and a hit on it has its point in the history
abbrev pub HoldsCurrent : WorldState → MemberState → Type 0
HoldsCurrent w m =
    Every (λ h. IsCurrent w.links.limits (client_of m) w.links.past m.state.past h
    × HasPoint w.links.limits (client_of m) w.links.past m.state.past h)
    (held m.state.setup m.state.past)

abbrev pub AllServiced : WorldState → Type 0
AllServiced w =
    (at : ℕ) → at < length w.members
    → Serviced w (member_at w.members at) × HoldsCurrent w (member_at w.members at)

-- ---- the ends of clients

-- Each end in the list is one of a client, at a link that is named after the client; each client
-- has one at each of its links, and no link has two.
pub record EndsStand (w : WorldState) : Type 0 where
  pub clients : HaveClients w
  pub named : (at : ℕ) → at < length w.ends →
      let e = (end_at w.ends at).end in
      (e.link ≡ link_on e.wire (client_at w at).name)
      × (e.place ≡ place_on e.wire (client_at w at))
  pub each : HaveEnds w
  pub distinct : (j k : ℕ) → j < length w.ends → k < length w.ends
      → (end_at w.ends k).end.link ≡ (end_at w.ends j).end.link → k ≡ j

-- ---- a schedule

-- after a schedule that met no fault, from the world where it began
pub record OneHistory (first : WorldState) (events : List Event) (lines : List Line)
    (w : WorldState) : Type 0 where
  pub history : History first.links.limits lines w.links
  pub serves : (at : ℕ) → at < length w.links.links →
      let link = at_place w.links.links at in
      Serves w.links.limits (heard first at events) (put_on w link.name events)
      (read_on link.name lines) w.links.past link
  pub unread : (name : List ℕ) → place_of name w.links ≡ None → read_on name lines ≡ []
  -- each entry tells those that remembered a key or registered a prefix of it, and drops the
  -- oldest keys past the limit alone
  pub told : ToldExactly w.links.limits w.links.past
  pub clients : AllServiced w
  pub ends : EndsStand w
  pub logs : LogsStand first events lines w
  -- the clock begins at 0
  pub clock : KeepsTime 0 first events

-- where the last event met a fault, or was broken off
pub record PartHistory (l : Limits) (events : List Event) (lines : List Line)
    (w : WorldState) : Type 0 where
  pub history : History l lines w.links
  pub serves : (at : ℕ) → at < length w.links.links →
      let link = at_place w.links.links at in
      PartServes w.links.limits (put_on w link.name events) (read_on link.name lines) w.links.past
      link
  pub unread : (name : List ℕ) → place_of name w.links ≡ None → read_on name lines ≡ []
  -- each entry tells those that remembered a key or registered a prefix of it, and drops the
  -- oldest keys past the limit alone
  pub told : ToldExactly w.links.limits w.links.past
  pub clients : AllServiced w
  pub ends : EndsStand w

-- ---- one more event

-- the links of a client of this name
abbrev pub links_of : List ℕ → List (List ℕ)
links_of name = link_on Main name ∷ link_on Side name ∷ []

-- where a client reads on one of its links, it may end the other
abbrev pub read_by : Option ℕ → WorldState → List ℕ → List (List ℕ)
read_by None w link = link ∷ []
read_by (Some at) w link = links_of (client_at w at).name

-- the links that an event names, where it is an event of one link or of one client
abbrev pub links_named : WorldState → Event → Option (List (List ℕ))
links_named w (Raw name) = None
links_named w (Say name words) = Some (name ∷ [])
links_named w (Bytes name bytes) = Some (name ∷ [])
links_named w (Client name mode capacity) = None
links_named w (Out name count) = Some (name ∷ [])
links_named w (Serve name count) = Some (name ∷ [])
links_named w (Send name count) = Some (name ∷ [])
links_named w (Recv name count) = Some (read_by (end_of_link name w.ends) w name)
links_named w (Flow name) = Some (read_by (end_of_link name w.ends) w name)
links_named w FlowAll = None
links_named w (Cut name) = Some (name ∷ [])
links_named w (Now moment) = None
links_named w Tick = None
links_named w (Ask name q) = Some (links_of name)
links_named w (Do name words) = Some (links_of name)
links_named w (Poll name n) = Some (links_of name)
links_named w (Show name) = Some (links_of name)

abbrev pub is_among : List (List ℕ) → List ℕ → Bool
is_among names name = list_any (bytes_eq name) names

-- the links that an event doesn't name are as they were, and what clients have read there; and so
-- are the clients none of whose links it names
pub record OthersKept (w : WorldState) (names : List (List ℕ)) (new : WorldState) : Type 0 where
  pub links : (at : ℕ) → is_among names (at_place w.links.links at).name ≡ false
      → at_place new.links.links at ≡ at_place w.links.links at
  pub ends : (at : ℕ) → is_among names (end_at w.ends at).end.link ≡ false
      → end_at new.ends at ≡ end_at w.ends at
  pub members : (at : ℕ)
      → ((u : Wire) → is_among names (link_on u (member_at w.members at).name) ≡ false)
      → member_at new.members at ≡ member_at w.members at

-- ---- answers from a cache

-- What the line `x hit V from P at W` of an `ask x Q` says of a client's cache: the client holds an
-- entry for exactly that query, V is its value, P the entry that ran its fetch, and W its point.
pub record HitHolds (w : WorldState) (m : MemberState) (q : List (List ℕ)) (v : Value)
    (entry at : ℕ) : Type 0 where
  pub number : ℕ
  pub is_held : held_for q (held m.state.setup m.state.past)
      ≡ Some (record { query = q; value = v; number = number })
  pub ran : run_of ((client_of m).id Main) w.links.past number ≡ Some entry
  pub point_is : at ≡ point w.links.limits (client_of m) w.links.past m.state.past
      (record { query = q; value = v; number = number }) entry

-- What the same line says of the server and its messages, in which no cache is named: entry P is
-- the Run of the query by the client's connection; V is the query's answer over the keyspace after
-- entry W, as the client's protocol carries it; W is an entry of the history, P or later, and not
-- before the reply to a command that names the key, nor before or at an invalidation of the key, or
-- of all keys, of those that the client has processed.
pub record HitAnswers (w : WorldState) (m : MemberState) (q : List (List ℕ)) (v : Value)
    (entry at : ℕ) : Type 0 where
  pub moment : ℕ
  pub sooner : List Entry
  pub fetch : up_to entry w.links.past ≡ Run ((client_of m).id Main) q moment ∷ sooner
  pub answers : tree_of v
      ≡ carried m.state.setup.mode.proto
      (tree_of (answer q (keyspace w.links.limits (up_to at w.links.past))))
  pub order : entry ≤ at
  pub within : at ≤ length w.links.past
  pub replies : replied (client_of m) w.links.past m.state.past (key_of q) ≤ at
  pub invalidations : (u : Wire) → HasWire m.state.setup.mode.shape u
      → (i : ℕ) (push : Value) (s : ℕ × Sending)
      → slice_get (gots u m.state.past) i ≡ Some push
      → invalidates m.state.setup.mode u push (key_of q) ≡ true
      → slice_get (sent w.links.limits ((client_of m).id u) w.links.past) i ≡ Some s
      → s.0 < at

-- the client that was asked prints the hit
pub record IsHit (w : WorldState) (name : List ℕ) (q : List (List ℕ)) (v : Value)
    (entry at : ℕ) : Type 0 where
  pub place : ℕ
  pub client : end_named name w ≡ Some place
  pub holds : HitHolds w (client_at w place) q v entry at
  pub answers : HitAnswers w (client_at w place) q v entry at

-- an event that asks a client a query prints hits of that client and query alone, and other events
-- print none
abbrev pub HitStands : WorldState → Event → Line → Type 0
HitStands w (Ask asked q) (line.Hit name v entry at) =
    (name ≡ asked) × IsHit w asked q v entry at
HitStands w event (line.Hit name v entry at) = ⊥
HitStands w event l = Unit {0}

-- each answer from a cache that a schedule prints
abbrev pub AllHitsStand : WorldState → List Event → Type 0
AllHitsStand w [] = Unit {0}
AllHitsStand w (e ∷ events) =
    Every (HitStands w e) (step w e).lines × AllHitsStand (step w e).state events

-- ---- one more event, with what it prints

pub record Follows (l : Limits) (events : List Event) (lines : List Line) (w : WorldState)
    (event : Event) (printed : List Line) (new : WorldState) : Type 0 where
  pub part : PartHistory l (events ++ event ∷ []) (lines ++ printed) new
  -- what was printed by then begins what the whole event prints
  pub front : IsPrefix printed (step w event).lines
  pub entries : List Entry
  pub grows : new.links.past ≡ entries ++ w.links.past
  pub hits : Every (HitStands w event) printed
  pub others : (names : List (List ℕ)) → links_named w event ≡ Some names → OthersKept w names new

-- ---- the law

-- So it is after any schedule that meets no fault, whatever the limits of the server and of the
-- clients' logs; and one more event, done or broken off, stays within it.
abbrev pub HasOneHistory : Type 0
HasOneHistory = (l : Limits) (log_max : ℕ) (events : List Event) (w : WorldState)
    → Every IsValid events → let first = start_with l log_max in after first events ≡ Some w →
    OneHistory first events (transcript first events) w
    × ((event : Event) (new : WorldState) (printed : List Line) → IsValid event
    → Reached (step w event) new printed
    → Follows l events (transcript first events) w event printed new)
    × AllHitsStand first events
    × ((at : ℕ) → at < length w.links.links → FlowDelivers w at)

-- What one more event comes to, in a world that a schedule led to: what it printed is behind the
-- lines before it, and it stays within the one history of that schedule.
abbrev pub StaysInHistory : WorldState → Event → List Line → WorldState → List Line → Type 0
StaysInHistory w event lines new lines' =
    (l : Limits) (log_max : ℕ) (events : List Event) → Every IsValid events
    → let first = start_with l log_max in after first events ≡ Some w
    → (printed : List Line) × (lines' ≡ lines ++ printed)
    × Follows l events (transcript first events) w event printed new

-- each end of a client is one of a link, and there is the link that the client's commands go on
abbrev pub HaveLinks : WorldState → Type 0
HaveLinks w =
    (at : ℕ) → at < length w.ends →
    let e = (end_at w.ends at).end in
    let m = client_at w at in
    (place_of e.link w.links ≡ Some e.place)
    × (place_of (link_on Main m.name) w.links ≡ Some m.main)

-- An event that is refused, as there is no such link or client, or it is there already, or fewer
-- bytes are there than it moves, or the client refuses it, leaves the world as it was and prints
-- nothing.
abbrev pub RefusalsChangeNothing : Type 0
RefusalsChangeNothing =
    (w : WorldState) (event : Event) (fault : WorldFault) → HaveLinks w
    → (step w event).fault ≡ Some fault → IsRefusal fault
    → ((step w event).state ≡ w) × ((step w event).lines ≡ [])
