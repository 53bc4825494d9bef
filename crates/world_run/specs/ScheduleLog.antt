-- What a client's log has of a schedule: its calls, each with the one line that answers it.
use Rattle.std.specs.Prelude.{◌≡◌, ◌<◌, ℕ, List, [], ◌∷◌, ◌++◌, true, false}
use Rattle.std.specs.Prelude.{if◌then◌else◌, length, option_to_list}
use Rattle.std.specs.declared.option.Option.{Option}
use Rattle.std.specs.declared.option.Option.TheVariants.{None, Some}
use Rattle.std.specs.List.{flat_map}
use Rattle.std.specs.Str.{bytes_eq}
use Rattle.shared_cache.specs.declared.log.Wire.TheVariants.{Main}
use Rattle.shared_cache.specs.declared.log.ClientCall.{ClientCall}
use Rattle.shared_cache.specs.declared.log.ClientCall.TheVariants as call
use Rattle.shared_cache.specs.declared.log.LogEntry.{LogEntry}
use Rattle.shared_cache.specs.declared.log.LogEntry.TheVariants as entry
use Rattle.shared_cache.specs.declared.entry.CacheEntry.{CacheEntry}
use Rattle.shared_cache.specs.Log.{is_ended, is_ready, reply}
use Rattle.shared_cache.specs.Held.{Setup, Words, held, held_for}
use Rattle.shared_cache.specs.Steps.{command_number, read_number}
use Rattle.script_text.specs.declared.event.Event.{Event}
use Rattle.script_text.specs.declared.event.Event.TheVariants.{Raw, Say, Bytes, Client, Out, Serve}
use Rattle.script_text.specs.declared.event.Event.TheVariants.{Send, Recv, Flow, FlowAll, Cut, Ask}
use Rattle.script_text.specs.declared.event.Event.TheVariants.{Do, Poll, Show, Now, Tick}
use Rattle.script_text.specs.declared.line.Line.{Line}
use Rattle.script_text.specs.declared.line.Line.TheVariants as line
use Rattle.world_run.specs.WorldState.{MemberState, WorldState, member_at}
use Rattle.world_run.specs.ReadLog.{AllGot}
use Rattle.world_run.specs.World.{step}

-- ---- calls

abbrev pub if_named : {A : Type 0} → List ℕ → List ℕ → A → Option A
if_named client name a = if bytes_eq client name then Some a else None

-- the call of the client of this name that an event is, if it is one
abbrev pub call_of : List ℕ → Event → Option ClientCall
call_of name (Raw link) = None
call_of name (Say link words) = None
call_of name (Bytes link bytes) = None
call_of name (Client client mode capacity) = None
call_of name (Out link count) = None
call_of name (Serve link count) = None
call_of name (Send link count) = None
call_of name (Recv link count) = None
call_of name (Flow link) = None
call_of name FlowAll = None
call_of name (Cut link) = None
call_of name (Now moment) = None
call_of name Tick = None
call_of name (Ask client q) = if_named client name (call.Ask q)
call_of name (Do client words) = if_named client name (call.Send words)
call_of name (Poll client n) = if_named client name (call.Poll n)
call_of name (Show client) = None

-- those of a schedule, in order
abbrev pub calls_of : List ℕ → List Event → List ClientCall
calls_of name events = flat_map (λ e. option_to_list (call_of name e)) events

-- ---- answers

-- the client that answers a call by this line
abbrev pub answerer : Line → Option (List ℕ)
answerer (line.Admit e link id) = None
answerer (line.Run e link words) = None
answerer (line.Drop e link) = None
answerer (line.Bad link number offset) = None
answerer (line.Close e link) = None
answerer (line.Take e link count) = None
answerer (line.Tick e moment) = None
answerer (line.Read link bytes) = None
answerer (line.Fault link number) = None
answerer (line.End link) = None
answerer (line.Hit client value e point) = Some client
answerer (line.Miss client number) = Some client
answerer (line.Sent client number) = Some client
answerer (line.Answer client number value) = Some client
answerer (line.Wait client number) = Some client
answerer (line.Down client) = Some client
answerer (line.NotReady client) = Some client
answerer (line.Holds client query value e) = None
answerer (line.Complete client e) = None

abbrev pub answer_by : List ℕ → Option (List ℕ) → Line → Option Line
answer_by name None l = None
answer_by name (Some client) l = if_named client name l

-- those of the client of this name, in order
abbrev pub answers_of : List ℕ → List Line → List Line
answers_of name lines = flat_map (λ l. option_to_list (answer_by name (answerer l) l)) lines

-- the client's link has not ended, and its handshake was accepted
abbrev pub IsUp : Setup → List LogEntry → Type 0
IsUp s log = (is_ended s.mode Main log ≡ false) × (is_ready s.mode log ≡ true)

-- the answer to a query: what is held of it, or the number of the read that is sent
abbrev pub AskSays : Setup → List LogEntry → Words → Line → Type 0
AskSays s log q (line.Hit client value e point) =
    IsUp s log
    × ((h : CacheEntry) × (held_for q (held s log) ≡ Some h) × (value ≡ h.value))
AskSays s log q (line.Miss client number) =
    IsUp s log × (held_for q (held s log) ≡ None) × (number ≡ read_number s log q)
AskSays s log q (line.Down client) = is_ended s.mode Main log ≡ true
AskSays s log q (line.NotReady client) =
    (is_ended s.mode Main log ≡ false) × (is_ready s.mode log ≡ false)
AskSays s log q l = ⊥

-- to another command: the number that it is sent as
abbrev pub SendSays : Setup → List LogEntry → Words → Line → Type 0
SendSays s log words (line.Sent client number) =
    IsUp s log × (number ≡ command_number s log words)
SendSays s log words (line.Down client) = is_ended s.mode Main log ≡ true
SendSays s log words (line.NotReady client) =
    (is_ended s.mode Main log ≡ false) × (is_ready s.mode log ≡ false)
SendSays s log words l = ⊥

-- to a poll: the reply to the command of that number, where one has come
abbrev pub PollSays : Setup → List LogEntry → ℕ → Line → Type 0
PollSays s log n (line.Answer client number value) =
    (number ≡ n) × (reply s.mode log n ≡ Some value)
PollSays s log n (line.Wait client number) =
    (number ≡ n) × (reply s.mode log n ≡ None) × (is_ended s.mode Main log ≡ false)
PollSays s log n (line.Down client) =
    (reply s.mode log n ≡ None) × (is_ended s.mode Main log ≡ true)
PollSays s log n l = ⊥

-- the line is the answer to the call, over the log before it
abbrev pub Says : Setup → List LogEntry → ClientCall → Line → Type 0
Says s log (call.Ask q) l = AskSays s log q l
Says s log (call.Send words) l = SendSays s log words l
Says s log (call.Poll n) l = PollSays s log n l
Says s log (call.TakeOut w most) l = ⊥
Says s log (call.Got w v) l = ⊥
Says s log (call.End w) l = ⊥

-- ---- entries

-- what a call that is answered by this line adds to the log: nothing where it is refused, or no
-- reply has come
abbrev pub noted : ClientCall → Line → List LogEntry
noted (call.Ask q) (line.Hit client value e point) = entry.Ask q ∷ []
noted (call.Ask q) (line.Miss client number) = entry.Ask q ∷ []
noted (call.Send words) (line.Sent client number) = entry.Send words ∷ []
noted (call.Poll n) (line.Answer client number value) = entry.Poll n ∷ []
noted c l = []

-- the entries of calls, where each is answered by the line in its place
abbrev pub all_noted : List ClientCall → List Line → List LogEntry
all_noted [] lines = []
all_noted (c ∷ calls) [] = []
all_noted (c ∷ calls) (l ∷ lines) = noted c l ++ all_noted calls lines

-- the Asks, Sends and Polls of a log, in order of time
abbrev pub calls_in : List LogEntry → List LogEntry
calls_in [] = []
calls_in (entry.Ask q ∷ log) = calls_in log ++ entry.Ask q ∷ []
calls_in (entry.Send words ∷ log) = calls_in log ++ entry.Send words ∷ []
calls_in (entry.Poll n ∷ log) = calls_in log ++ entry.Poll n ∷ []
calls_in (entry.TakeOut w most ∷ log) = calls_in log
calls_in (entry.Got w v ∷ log) = calls_in log
calls_in (entry.End w ∷ log) = calls_in log
calls_in (entry.Bad w v ∷ log) = calls_in log

-- ---- one event

-- A call prints one line, the client's answer, and the log gets the entry that the answer means.
pub record Called (s : Setup) (name : List ℕ) (log new : List LogEntry) (c : ClientCall)
    (lines : List Line) : Type 0 where
  pub answer : Line
  pub printed : lines ≡ answer ∷ []
  pub by : answerer answer ≡ Some name
  pub says : Says s log c answer
  pub grows : new ≡ noted c answer ++ log

-- An event that is no call of the client prints no answer of it, and the log gets what is no call.
pub record Uncalled (name : List ℕ) (log new : List LogEntry) (lines : List Line) : Type 0 where
  pub entries : List LogEntry
  pub grows : new ≡ entries ++ log
  pub no_call : calls_in entries ≡ []
  pub no_answer : answers_of name lines ≡ []

abbrev pub Notes : Option ClientCall → Setup → List ℕ → List LogEntry → List LogEntry → List Line
    → Type 0
Notes None s name log new lines = Uncalled name log new lines
Notes (Some c) s name log new lines = Called s name log new c lines

-- what an event does to the log of each client, and prints
abbrev pub EventNotes : WorldState → Event → Type 0
EventNotes w e =
    (at : ℕ) → at < length w.members →
    let m = member_at w.members at in
    Notes (call_of m.name e) m.state.setup m.name m.state.past
    (member_at (step w e).state.members at).state.past (step w e).lines

-- ---- a schedule

-- each event, over the logs before it
abbrev pub AllNoted : WorldState → List Event → Type 0
AllNoted w [] = Unit {0}
AllNoted w (e ∷ events) = EventNotes w e × AllNoted (step w e).state events

-- The client's answers are one for each call of the schedule, and the Asks, Sends and Polls of its
-- log are those of the calls that were not refused.
pub record IsNoted (events : List Event) (lines : List Line) (m : MemberState) : Type 0 where
  pub answered : length (answers_of m.name lines) ≡ length (calls_of m.name events)
  pub entries : calls_in m.state.past
      ≡ all_noted (calls_of m.name events) (answers_of m.name lines)

-- after a schedule that met no fault, from this world
pub record LogsStand (v : WorldState) (events : List Event) (lines : List Line)
    (w : WorldState) : Type 0 where
  pub clients : (at : ℕ) → at < length w.members
      → IsNoted events lines (member_at w.members at)
  pub notes : AllNoted v events
  pub got : AllGot lines w
