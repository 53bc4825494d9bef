-- What the service of one connection does to its seat and its link.
use Rattle.std.specs.Prelude.{◌≡◌, ◌≤◌, ◌⊎◌, ℕ, List, [], ◌∷◌, length, max, take, Option, Some}
use Rattle.std.specs.Prelude.{None, Result, Ok, Err, IfSome, true, ⊤}
use Rattle.std.specs.List.{All}
use Rattle.std.specs.Io.KnownBytes.{Appends, Consumes}
use Rattle.resp_value.specs.Lists.{IsPrefix}
use Rattle.resp_stream.specs.Parse.{parse, requests_of}
use Rattle.resp_stream.specs.Stream.{fed}
use Rattle.edge_links.specs.declared.counts.Counts.{Counts}
use Rattle.edge_links.specs.Counts.{Counted, EndCounted, FaultCounted, IdleCounted}
use Rattle.serial_model.specs.declared.history.Limits.{Limits}
use Rattle.serial_model.specs.declared.history.Entry.TheVariants as entry
use Rattle.serial_model.specs.History.{gives_on, is_admitted, is_stopped, latest, reads_on, stream}
use Rattle.serial_model.specs.History.{taken, unsent}
use Rattle.turn_lock.specs.Counts.{total}
use Rattle.turn_lock.specs.declared.rule.TheConstants.{LAST_TICKET}
use Rattle.resp_value.specs.declared.octets.Octets.{Octets}
use Rattle.shared_book.specs.declared.turns.Refusal.{Refusal}
use Rattle.shared_book.specs.declared.turns.Refusal.TheVariants as refusal
use Rattle.serial_model.specs.declared.history.BookCall.{BookCall}
use Rattle.turn_lock.specs.Own.{past_of, IsWithin, Grows}
use Rattle.turn_lock.specs.Turns.{in_order}
use Rattle.shared_book.specs.Batches.{IsRunAt, requests_in}
use Rattle.shared_book.specs.Turns.{Place, Turn, IsCause, limits_of, Admits, Closes, Refuses}
use Rattle.shared_book.specs.Turns.{IsCloseCause, IsServerCause, Takes, Ticks}
use Rattle.conn_worker.specs.declared.report.Report.{Report}
use Rattle.conn_worker.specs.declared.report.Ended.{Ended}
use Rattle.conn_worker.specs.declared.report.Ended.TheVariants as ended
use Rattle.conn_worker.specs.declared.connection.Connection.{Connection}
use Rattle.conn_worker.specs.declared.connection.ReadRequests.{ReadRequests}
use Rattle.conn_worker.specs.declared.connection.Stop.{Stop}
use Rattle.conn_worker.specs.declared.connection.Stop.TheVariants as stop
use Rattle.conn_worker.specs.declared.serve.Heard.{Heard}
use Rattle.conn_worker.specs.declared.serve.Heard.TheVariants as came
use Rattle.conn_worker.specs.Quits.{has_quit, stop_behind, stop_in, up_to_quit}
use Rattle.conn_worker.specs.Elsewhere.{HadEnded, HasQuit, closes}

abbrev pub ended_by : Refusal → Ended
ended_by refusal.Dropped = ended.Dropped
ended_by refusal.NoMemory = ended.NoMemory
ended_by refusal.Worn = ended.Worn
ended_by refusal.Stopped = ended.Stopped

-- why no turn of the connection is taken any more, behind these turns of its own, as the seat shows
-- it
abbrev pub IsEnd : Ended → ℕ → List Turn → Place → Type 0
IsEnd ended.PeerEnd id turns k = ⊥
IsEnd ended.Quit id turns k = ⊥
IsEnd ended.Dropped id turns k = HadEnded id turns k
IsEnd (ended.BadRequest fault) id turns k = ⊥
IsEnd ended.LinkFault id turns k = ⊥
IsEnd ended.NoMemory id turns k = ⊤
IsEnd ended.Worn id turns k = LAST_TICKET ≤ k.tickets
IsEnd ended.Stopped id turns k = ⊥

-- ---- the turns of one connection, the newest first

-- a Run of the connection or a Tick, at the greater of the clock's moment and the latest; or a Take
-- of the connection
abbrev pub IsWork : ℕ → Option ℕ → Turn → Type 0
IsWork id clock (entry.Admit n, past) = ⊥
IsWork id clock (entry.Run n words moment, past) =
    (n ≡ id) × IfSome clock (λ now. moment ≡ max now (latest past))
IsWork id clock (entry.Tick moment, past) = IfSome clock (λ now. moment ≡ max now (latest past))
IsWork id clock (entry.Take n most, past) = n ≡ id
IsWork id clock (entry.Close n, past) = ⊥

abbrev pub run_in : Turn → List (List (List ℕ))
run_in (entry.Admit n, past) = []
run_in (entry.Run n words moment, past) = words ∷ []
run_in (entry.Tick moment, past) = []
run_in (entry.Take n most, past) = []
run_in (entry.Close n, past) = []

-- the requests that ran, in order
abbrev pub runs_in : List Turn → List (List (List ℕ))
runs_in turns = in_order run_in turns

abbrev pub gave_in : Limits → Turn → List ℕ
gave_in l (entry.Admit n, past) = []
gave_in l (entry.Run n words moment, past) = []
gave_in l (entry.Tick moment, past) = []
gave_in l (entry.Take n most, past) = take most (unsent l n past)
gave_in l (entry.Close n, past) = []

-- the bytes that the Takes gave, in order
abbrev pub gave : Limits → List Turn → List ℕ
gave l turns = in_order (gave_in l) turns

-- where the turn is a Run or a Tick: of all that the connection was sent up to and with it, no byte
-- is behind those that were taken
abbrev pub IsTaken : Limits → ℕ → ℕ → Turn → Type 0
IsTaken l id count (entry.Admit n, past) = ⊤
IsTaken l id count (entry.Run n words moment, past) =
    length (stream l id (entry.Run n words moment ∷ past)) ≤ count
IsTaken l id count (entry.Tick moment, past) =
    length (stream l id (entry.Tick moment ∷ past)) ≤ count
IsTaken l id count (entry.Take n most, past) = ⊤
IsTaken l id count (entry.Close n, past) = ⊤

-- ---- the requests of a link

abbrev pub fed_connection : Connection → List ℕ → Connection
fed_connection c piece = record c { reader = fed c.reader piece }

-- nothing is read behind what the connection has read for this reason, if for any
abbrev pub stop_of_reader : Connection → Option Stop
stop_of_reader c = stop_behind (parse c.reader).items (parse c.reader).fault

-- the calls run all that the connection has read, up to a QUIT, and why it reads no more
pub record ReadsAll (stop : Option Stop) (before after : Connection) (calls : List BookCall)
    : Type 0 where
  pub items : requests_in calls ≡ up_to_quit (parse before.reader).items
  pub stop_is : stop ≡ stop_of_reader before
  pub reader : stop ≡ None → after.reader ≡ (parse before.reader).stream

-- the same of the requests of a read, which are to run at the clock's moment
pub record HearsAll (clock : Option ℕ) (r : ReadRequests) (before after : Connection) : Type 0
  where
    pub reads : ReadsAll r.stop before after r.calls.items
    pub runs : All (IsRunAt before.id r.now) r.calls.items
    pub at : IfSome clock (λ m. r.now ≡ m)

-- ---- what is written to a link

-- the first bytes that waited for the connection were taken
abbrev pub Begins : ℕ → Option Octets → Place → Place → Type 0
Begins id front before now =
    IsWithin before × (is_admitted (past_of before) id ≡ true) × Takes id front before now

-- What waited for the connection was taken and written, all of it. A Close behind a QUIT, which is
-- none of this call's, gives up the rest.
pub record Delivers (id : ℕ) (link0 link1 : Option (List ℕ)) (old new : Place) : Type 0 where
  pub turns : List Turn
  pub grows : Grows old new turns
  pub work : (clock : Option ℕ) → All (IsWork id clock) turns
  pub runs_none : runs_in turns ≡ []
  pub wrote : Appends link0 link1 (gave (limits_of old) turns)
  pub taken_all : reads_on (limits_of old) (past_of new) id ≡ true
      → length (stream (limits_of old) id (past_of old)) ≤ taken (limits_of old) id (past_of new)

-- a Take was refused
pub record TakeEnds (cause : Ended) (id : ℕ) (k : Place) : Type 0 where
  pub refusal : Refusal
  pub is : cause ≡ ended_by refusal
  pub cause_is : IsCause gives_on id refusal k

-- some of what waited was taken, and that was written, or some of it where the link failed
pub record DeliversPart (cause : Ended) (id : ℕ) (link0 link1 : Option (List ℕ)) (old new : Place)
    : Type 0 where
  pub turns : List Turn
  pub grows : Grows old new turns
  pub work : (clock : Option ℕ) → All (IsWork id clock) turns
  pub runs_none : runs_in turns ≡ []
  pub bytes : List ℕ
  pub wrote : Appends link0 link1 bytes
  pub front : IsPrefix bytes (gave (limits_of old) turns)
  pub all_wrote : (cause ≡ ended.LinkFault → ⊥) → bytes ≡ gave (limits_of old) turns
  pub cause_is : (cause ≡ ended.LinkFault) ⊎ TakeEnds cause id new

abbrev pub DeliveryCounts : Result ⊤ Ended → Counts → Counts → Type 0
DeliveryCounts (Ok u) old new = new ≡ old
DeliveryCounts (Err ended.LinkFault) old new = FaultCounted old new
DeliveryCounts (Err e) old new = new ≡ old

-- ---- one read of a link

-- a count that rose in this call, for an end that the link gave; else no fault and no end of it
abbrev pub EndCounts : Ended → Counts → Counts → Type 0
EndCounts ended.PeerEnd old new = Counted old.ends new.ends × (new.faults ≡ old.faults)
EndCounts ended.Quit old new = (new.faults ≡ old.faults) × (new.ends ≡ old.ends)
EndCounts ended.Dropped old new = (new.faults ≡ old.faults) × (new.ends ≡ old.ends)
EndCounts (ended.BadRequest fault) old new = (new.faults ≡ old.faults) × (new.ends ≡ old.ends)
EndCounts ended.LinkFault old new = Counted old.faults new.faults × (new.ends ≡ old.ends)
EndCounts ended.NoMemory old new = (new.faults ≡ old.faults) × (new.ends ≡ old.ends)
EndCounts ended.Worn old new = (new.faults ≡ old.faults) × (new.ends ≡ old.ends)
EndCounts ended.Stopped old new = (new.faults ≡ old.faults) × (new.ends ≡ old.ends)

-- the requests of a read, if it brought a piece
abbrev pub read_in : Heard → Option ReadRequests
read_in came.Idle = None
read_in (came.Left e) = None
read_in (came.Piece r) = Some r

-- a Tick at the clock's moment
pub record TicksAt (clock : Option ℕ) (old new : Place) : Type 0 where
  pub now : ℕ
  pub at : IfSome clock (λ m. now ≡ m)
  pub ticks : Ticks now old new

-- a Tick that is refused so is left to the next read that brings nothing
abbrev pub IsLeft : Refusal → Type 0
IsLeft refusal.Dropped = ⊥
IsLeft refusal.NoMemory = ⊤
IsLeft refusal.Worn = ⊥
IsLeft refusal.Stopped = ⊥

-- and one that is refused so ends the service
abbrev pub EndsService : Refusal → Type 0
EndsService refusal.Dropped = ⊥
EndsService refusal.NoMemory = ⊥
EndsService refusal.Worn = ⊤
EndsService refusal.Stopped = ⊤

-- what is due leaves where a read brings nothing, unless that is refused
abbrev pub Idles : Option ℕ → Heard → Place → Place → Type 0
Idles clock came.Idle old new = TicksAt clock old new
Idles clock (came.Left e) old new = Refuses IsServerCause e old new × IsLeft e
Idles clock (came.Piece r) old new = ⊥

-- a link and a seat, at a moment
pub record Standing : Type 0 where
  pub left : Option (List ℕ)
  pub contents : Option (List ℕ)
  pub counts : Counts
  pub place : Place

abbrev pub standing : Option (List ℕ) → Option (List ℕ) → Counts → Place → Standing
standing left contents counts place =
    record { left = left; contents = contents; counts = counts; place = place }

-- Nothing came, which the link counted; or a piece of at most so many bytes was read, with the
-- requests that are whole by then, which are to run.
pub data Hears (clock : Option ℕ) (most : ℕ) (heard : Heard) (before after : Connection)
    (old new : Standing) : Type 0 where
  Idle : Idles clock heard old.place new.place → after ≡ before → Consumes old.left new.left []
      → IdleCounted old.counts new.counts → Hears clock most heard before after old new
  Piece : (r : ReadRequests) → heard ≡ came.Piece r → (piece : List ℕ) → length piece ≤ most
      → Consumes old.left new.left piece → new.counts ≡ old.counts → new.place ≡ old.place
      → HearsAll clock r (fed_connection before piece) after
      → after.id ≡ before.id → after.requests ≡ before.requests
      → Hears clock most heard before after old new

-- the count of an end that the link gave rose
abbrev pub LinkEnds : Ended → Counts → Counts → Type 0
LinkEnds ended.PeerEnd old new = EndCounted old new
LinkEnds ended.Quit old new = ⊥
LinkEnds ended.Dropped old new = ⊥
LinkEnds (ended.BadRequest fault) old new = ⊥
LinkEnds ended.LinkFault old new = FaultCounted old new
LinkEnds ended.NoMemory old new = ⊥
LinkEnds ended.Worn old new = ⊥
LinkEnds ended.Stopped old new = ⊥

-- The link gave no bytes, and perhaps the Tick was refused; or memory ran out for what was read.
pub data HearsPart (clock : Option ℕ) (most : ℕ) (cause : Ended) (before after : Connection)
    (old new : Standing) : Type 0 where
  Nothing : LinkEnds cause old.counts new.counts → after ≡ before → new.place ≡ old.place
      → Consumes old.left new.left [] → HearsPart clock most cause before after old new
  Unticked : (e : Refusal) → EndsService e → cause ≡ ended_by e
      → Refuses IsServerCause e old.place new.place → after ≡ before
      → Consumes old.left new.left []
      → IdleCounted old.counts new.counts
      → HearsPart clock most cause before after old new
  Unread : cause ≡ ended.NoMemory → (piece : List ℕ) → length piece ≤ most
      → Consumes old.left new.left piece → new.counts ≡ old.counts → new.place ≡ old.place
      → after.requests ≡ before.requests → HearsPart clock most cause before after old new

abbrev pub HearingCounts : Result Heard Ended → Counts → Counts → Type 0
HearingCounts (Ok heard) old new = (new.faults ≡ old.faults) × (new.ends ≡ old.ends)
HearingCounts (Err e) old new = EndCounts e old new

-- ---- a connection that is served

-- the end was read after all that came before it, a QUIT too
abbrev pub IsWhole : Ended → Type 0
IsWhole ended.PeerEnd = ⊤
IsWhole ended.Quit = ⊤
IsWhole ended.Dropped = ⊥
IsWhole (ended.BadRequest fault) = ⊤
IsWhole ended.LinkFault = ⊥
IsWhole ended.NoMemory = ⊥
IsWhole ended.Worn = ⊥
IsWhole ended.Stopped = ⊥

-- why the connection is served no longer, as the seat or what was read shows it
abbrev pub IsShown : Ended → ℕ → List ℕ → List Turn → Place → Type 0
IsShown ended.PeerEnd id heard turns k = stop_in heard ≡ None
IsShown ended.Quit id heard turns k =
    (stop_in heard ≡ Some stop.Quit) × (has_quit id (past_of k) ≡ true) × HasQuit id k
IsShown ended.Dropped id heard turns k = HadEnded id turns k
IsShown (ended.BadRequest fault) id heard turns k = stop_in heard ≡ Some (stop.Fault fault)
IsShown ended.LinkFault id heard turns k = ⊤
IsShown ended.NoMemory id heard turns k = ⊤
IsShown ended.Worn id heard turns k = LAST_TICKET ≤ k.tickets
IsShown ended.Stopped id heard turns k =
    (stop_in heard ≡ None) × (is_stopped (limits_of k) (past_of k) ≡ true)

-- What the service of an admitted connection did, up to its end. The Runs are the first requests in
-- what was read, in order, and none behind a QUIT; where the end was read, they are all. What was
-- written are all bytes that its Takes gave, or the first of them where the link failed.
pub record Works (clock : Option ℕ) (cause : Ended) (id requests : ℕ)
    (left0 left1 link0 link1 : Option (List ℕ)) (old new : Place) : Type 0 where
  pub turns : List Turn
  pub grows : Grows old new turns
  pub work : All (IsWork id clock) turns
  pub counted : requests ≡ length (runs_in turns)
  pub heard : List ℕ
  pub read : Consumes left0 left1 heard
  pub bytes : List ℕ
  pub wrote : Appends link0 link1 bytes
  pub runs : IsPrefix (runs_in turns) (up_to_quit (requests_of heard))
  pub front : IsPrefix bytes (gave (limits_of old) turns)
  pub all_ran : IsWhole cause → runs_in turns ≡ up_to_quit (requests_of heard)
  pub all_wrote : (cause ≡ ended.LinkFault → ⊥) → bytes ≡ gave (limits_of old) turns
  pub all_taken : IsWhole cause → reads_on (limits_of old) (past_of new) id ≡ true
      → All (IsTaken (limits_of old) id (taken (limits_of old) id (past_of new))) turns
  pub shown : IsShown cause id heard turns new

-- ---- the whole visit of a connection

-- a Close, or none where the connection may not be closed any more, or no ticket is left
abbrev pub MayClose : ℕ → Place → Place → Type 0
MayClose id last new =
    Closes id last new ⊎ ((e : Refusal) × Refuses (IsCloseCause id) e last new)

-- one that quit ends so where it is closed now, and no other Close of it was seen; where its Close
-- is refused, it ends by that
pub data QuitLeaves (e : Ended) (id : ℕ) (last new : Place) : Type 0 where
  Alone : e ≡ ended.Quit → Closes id last new → total (closes id) (past_of new) ≡ 1
      → QuitLeaves e id last new
  Late : (r : Refusal) → e ≡ ended_by r → Refuses (IsCloseCause id) r last new
      → QuitLeaves e id last new

-- a connection whose service ended so is closed, but for one that had ended
abbrev pub Leaves : Ended → Ended → ℕ → Place → Place → Type 0
Leaves ended.PeerEnd e id last new = (e ≡ ended.PeerEnd) × MayClose id last new
Leaves ended.Quit e id last new = QuitLeaves e id last new
Leaves ended.Dropped e id last new = (e ≡ ended.Dropped) × (new ≡ last)
Leaves (ended.BadRequest fault) e id last new =
    (e ≡ ended.BadRequest fault) × MayClose id last new
Leaves ended.LinkFault e id last new = (e ≡ ended.LinkFault) × MayClose id last new
Leaves ended.NoMemory e id last new = (e ≡ ended.NoMemory) × MayClose id last new
Leaves ended.Worn e id last new = (e ≡ ended.Worn) × MayClose id last new
Leaves ended.Stopped e id last new = (e ≡ ended.Stopped) × MayClose id last new

-- A connection that was admitted: one Admit, its work, and at most one Close. One that is reported
-- as dropped had ended by none of these.
pub record Served (clock : Option ℕ) (r : Report) (left0 left1 link0 link1 : Option (List ℕ))
    (old new : Place) : Type 0 where
  pub first : Place
  pub last : Place
  pub cause : Ended
  pub admits : Admits r.id old first
  pub works : Works clock cause r.id r.requests left0 left1 link0 link1 first last
  pub leaves : Leaves cause r.ended r.id last new
  pub dropped : r.ended ≡ ended.Dropped → HadEnded r.id works.turns new

-- a connection that was not admitted
pub record NotServed (r : Report) (left0 left1 link0 link1 : Option (List ℕ)) (old new : Place)
    : Type 0 where
  pub id : r.id ≡ 0
  pub none : r.requests ≡ 0
  pub refusal : Refusal
  pub ended : r.ended ≡ ended_by refusal
  pub refuses : Refuses IsServerCause refusal old new
  pub unread : left1 ≡ left0
  pub unwritten : link1 ≡ link0

abbrev pub Visits : Option ℕ → Report → Option (List ℕ) → Option (List ℕ) → Option (List ℕ)
    → Option (List ℕ) → Place → Place → Type 0
Visits clock r left0 left1 link0 link1 old new =
    NotServed r left0 left1 link0 link1 old new ⊎ Served clock r left0 left1 link0 link1 old new
