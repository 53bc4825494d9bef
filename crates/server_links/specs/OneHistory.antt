-- What the headline says of a schedule over bytes: one serial history, with each request once, and
-- replies that are its replies. Every byte is read, in flight or lost, and it is lost only by a
-- cut.
use Rattle.std.specs.Prelude.{◌≡◌, ◌+◌, ◌<◌, ◌≤◌, ◌||◌, ℕ, List, [], ◌∷◌, ◌++◌, Bool, true, false}
use Rattle.std.specs.Prelude.{if◌then◌else◌, filter, length, take}
use Rattle.std.specs.declared.option.Option.TheVariants.{None, Some}
use Rattle.std.specs.List.{flat_map}
use Rattle.std.specs.Str.{bytes_eq}
use Rattle.resp_value.specs.Lists.{IsPrefix}
use Rattle.resp_stream.specs.Parse.{requests_of}
use Rattle.serial_model.specs.declared.history.Limits.{Limits}
use Rattle.serial_model.specs.declared.history.Entry.{Entry}
use Rattle.serial_model.specs.declared.standing.Standing.{Standing}
use Rattle.serial_model.specs.declared.standing.Standing.TheVariants.{Live, Quit, QuitClosed, Gone}
use Rattle.serial_model.specs.EntryEffects.{was_dropped}
use Rattle.serial_model.specs.History.{admitted, has_ended, is_quit, reads_on, runs_of, state}
use Rattle.serial_model.specs.History.{stream, taken, unsent, IsLegal}
use Rattle.server_links.specs.LinkEvent.{LinkEvent, Raw, Put, Over, Now, Tick}
use Rattle.server_links.specs.declared.link.LinkMove.TheVariants as moves
use Rattle.script_text.specs.declared.line.Line.{Line}
use Rattle.script_text.specs.declared.line.Line.TheVariants as line
use Rattle.server_links.specs.declared.fault.WorldFault.{WorldFault}
use Rattle.server_links.specs.declared.link.Link.{Link}
use Rattle.server_links.specs.Faults.{IsRefusal}
use Rattle.server_links.specs.Directions.{is_open}
use Rattle.server_links.specs.EntryLines.{entry_lines, is_entry_line}
use Rattle.server_links.specs.Clock.{KeepsTime}
use Rattle.server_links.specs.Moves.{all_bytes}
use Rattle.server_links.specs.Outcome.{Reached}
use Rattle.server_links.specs.Transcript.{after, heard, transcript}
use Rattle.server_links.specs.LinkSteps.{link_named, place_of, step}
use Rattle.server_links.specs.LinksState.{LinksState, at_place, names, start}

-- ---- what schedules and lines say

abbrev pub said_by : List ℕ → LinkEvent → List ℕ
said_by link (Raw name) = []
said_by link (Put name bytes) = if bytes_eq name link then bytes else []
said_by link (Over name move) = []
said_by link (Now moment) = []
said_by link Tick = []

-- the bytes that the client of a link put on it, in order
abbrev pub said_to : List ℕ → List LinkEvent → List ℕ
said_to link events = flat_map (said_by link) events

abbrev pub read_by : List ℕ → Line → List ℕ
read_by link (line.Admit e name id) = []
read_by link (line.Run e name words) = []
read_by link (line.Drop e name) = []
read_by link (line.Bad name number offset) = []
read_by link (line.Close e name) = []
read_by link (line.Take e name count) = []
read_by link (line.Tick e moment) = []
read_by link (line.Read name bytes) = if bytes_eq name link then bytes else []
read_by link (line.Fault name number) = []
read_by link (line.End name) = []
read_by link (line.Hit client value entry point) = []
read_by link (line.Miss client number) = []
read_by link (line.Sent client number) = []
read_by link (line.Answer client number value) = []
read_by link (line.Wait client number) = []
read_by link (line.Down client) = []
read_by link (line.NotReady client) = []
read_by link (line.Holds client query value entry) = []
read_by link (line.Complete client entry) = []

-- the bytes that were read on a link, in order
abbrev pub read_on : List ℕ → List Line → List ℕ
read_on link lines = flat_map (read_by link) lines

-- ---- one link

-- What was put on a link is what its server's end heard, then what is in flight, then what was
-- lost.
pub record Delivers (heard said : List ℕ) (link : Link) : Type 0 where
  pub lost : List ℕ
  pub all_said : (heard ++ link.up.bytes) ++ lost ≡ said

-- What was taken of the stream of a connection is what its client read, then what is in flight,
-- then
-- what was lost.
pub record Returns (l : Limits) (read : List ℕ) (past : List Entry) (link : Link) : Type 0 where
  pub lost : List ℕ
  pub all_taken : (read ++ link.down.bytes) ++ lost
      ≡ take (taken l link.id past) (stream l link.id past)

abbrev pub has_quit : Standing → Bool
has_quit Live = false
has_quit Quit = true
has_quit QuitClosed = true
has_quit Gone = false

-- Whether a connection ended before all that was heard of it ran: otherwise than by a Close alone,
-- so by its QUIT, or since an entry dropped it.
abbrev pub ended_early : Limits → ℕ → List Entry → Bool
ended_early l c past = has_quit ((state l past).standing c) || was_dropped l c past

-- a QUIT is the last of these requests, if there is one
abbrev pub QuitIsLast : List (List (List ℕ)) → Type 0
QuitIsLast [] = Unit {0}
QuitIsLast (words ∷ requests) = (is_quit words ≡ true → requests ≡ []) × QuitIsLast requests

pub record Serves (l : Limits) (heard said read : List ℕ) (past : List Entry) (link : Link) : Type 0
  where
    pub up : Delivers heard said link
    pub up_lost : is_open link.up.eof ≡ true → up.lost ≡ []
    pub down : Returns l read past link
    pub down_lost : is_open link.down.eof ≡ true → down.lost ≡ []
    -- the Runs are the requests in what was heard, up to a fault of the stream, a QUIT or a drop,
    -- each once and in order
    pub runs_front : IsPrefix (runs_of link.id past) (requests_of heard)
    pub runs_all : ended_early l link.id past ≡ false → runs_of link.id past ≡ requests_of heard
    pub quit_last : QuitIsLast (runs_of link.id past)

-- The same where the last event met a fault or was broken off: what was heard by then is some front
-- of
-- what was said, and bytes may be lost.
pub record PartServes (l : Limits) (said read : List ℕ) (past : List Entry) (link : Link) : Type 0
  where
    pub heard : List ℕ
    pub up : Delivers heard said link
    pub down : Returns l read past link
    pub runs_front : IsPrefix (runs_of link.id past) (requests_of heard)

-- ---- all links

-- the history is a legal one, its lines are the lines that were printed, and each connection that
-- it
-- admitted has one link
pub record History (l : Limits) (lines : List Line) (w : LinksState) : Type 0 where
  pub limits : w.limits ≡ l
  pub legal : IsLegal w.limits w.past
  pub links : length w.links ≡ admitted w.past
  pub ids : (at : ℕ) → at < length w.links → (at_place w.links at).id ≡ at + 1
  pub printed : filter is_entry_line lines ≡ entry_lines w.limits (names w.links) w.past

-- after a schedule that met no fault
pub record OneHistory (l : Limits) (events : List LinkEvent) (lines : List Line)
    (w : LinksState) : Type 0 where
  pub history : History l lines w
  pub serves : (at : ℕ) → at < length w.links →
      let link = at_place w.links at in
      Serves w.limits (heard (start l) at events) (said_to link.name events)
      (read_on link.name lines) w.past link
  pub unread : (name : List ℕ) → place_of name w ≡ None → read_on name lines ≡ []
  -- the clock begins at 0
  pub clock : KeepsTime 0 (start l) events

-- where the last event met a fault, or was broken off
pub record PartHistory (l : Limits) (events : List LinkEvent) (lines : List Line)
    (w : LinksState) : Type 0 where
  pub history : History l lines w
  pub serves : (at : ℕ) → at < length w.links →
      let link = at_place w.links at in
      PartServes w.limits (said_to link.name events) (read_on link.name lines) w.past link
  pub unread : (name : List ℕ) → place_of name w ≡ None → read_on name lines ≡ []

-- ---- one more event

-- the links that an event doesn't name are as they were
abbrev pub OthersKept : LinksState → List ℕ → LinksState → Type 0
OthersKept w name new = (at : ℕ) → (place_of name w ≡ Some at → ⊥)
    → at_place new.links at ≡ at_place w.links at

pub record Follows (l : Limits) (events : List LinkEvent) (lines : List Line) (w : LinksState)
    (event : LinkEvent) (printed : List Line) (new : LinksState) : Type 0 where
  pub part : PartHistory l (events ++ event ∷ []) (lines ++ printed) new
  -- what was printed by then begins what the whole event prints
  pub front : IsPrefix printed (step w event).lines
  pub entries : List Entry
  pub grows : new.past ≡ entries ++ w.past
  pub others : (name : List ℕ) → link_named event ≡ Some name → OthersKept w name new

-- Nothing is in flight over this link, and where a Take can ask for all of it nothing is left to
-- send: the EOF was sent too, if its connection has ended.
pub record IsDelivered (w : LinksState) (link : Link) : Type 0 where
  pub up : link.up.bytes ≡ []
  pub down : link.down.bytes ≡ []
  pub sent : length (stream w.limits link.id w.past) ≤ all_bytes
      → unsent w.limits link.id w.past ≡ []
  pub ended : length (stream w.limits link.id w.past) ≤ all_bytes
      → has_ended w.limits link.id w.past ≡ true → is_open link.down.eof ≡ false

-- A link that is not cut, and whose server reads on, delivers all that was there once it flows
-- without a fault.
abbrev pub FlowDelivers : LinksState → ℕ → Type 0
FlowDelivers w at =
    let link = at_place w.links at in
    let new = step w (Over link.name moves.Flow) in
    reads_on w.limits w.past link.id ≡ true → is_open link.up.eof ≡ true
    → is_open link.down.eof ≡ true → new.fault ≡ None
    → IsDelivered new.state (at_place new.state.links at)

-- So it is after any schedule that meets no fault; and one more event, done or broken off, stays
-- within it.
abbrev pub HasOneHistory : Type 0
HasOneHistory = (l : Limits) (events : List LinkEvent) (w : LinksState)
    → after (start l) events ≡ Some w →
    OneHistory l events (transcript (start l) events) w
    × ((event : LinkEvent) (new : LinksState) (printed : List Line)
    → Reached (step w event) new printed
    → Follows l events (transcript (start l) events) w event printed new)
    × ((at : ℕ) → at < length w.links → FlowDelivers w at)

-- An event that is refused, as there is no such link, or it is there already, or fewer bytes are
-- there
-- than it moves, leaves the world as it was and prints nothing.
abbrev pub RefusalsChangeNothing : Type 0
RefusalsChangeNothing =
    (w : LinksState) (event : LinkEvent) (fault : WorldFault)
    → (step w event).fault ≡ Some fault → IsRefusal fault
    → ((step w event).state ≡ w) × ((step w event).lines ≡ [])
