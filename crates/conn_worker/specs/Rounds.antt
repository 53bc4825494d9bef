-- A visit round by round: in each the link is read once, the requests run that are whole by then,
-- and all that waits for the connection is taken and written.
use Rattle.std.specs.Prelude.{◌≡◌, ◌≤◌, ◌++◌, ◌⊎◌, ℕ, List, [], length, Option, Some, None, Err}
use Rattle.std.specs.Prelude.{IfSome}
use Rattle.std.specs.Io.KnownBytes.{Consumes, Keeps}
use Rattle.resp_stream.specs.Parse.{requests_of}
use Rattle.edge_links.specs.Counts.{IdleCounted}
use Rattle.shared_book.specs.declared.turns.Refusal.{Refusal}
use Rattle.shared_book.specs.Turns.{Place, Admits, IsServerCause, Refuses}
use Rattle.conn_worker.specs.declared.report.Report.{Report}
use Rattle.conn_worker.specs.declared.report.Ended.{Ended}
use Rattle.conn_worker.specs.declared.report.Ended.TheVariants as ended
use Rattle.conn_worker.specs.declared.connection.Stop.{Stop}
use Rattle.conn_worker.specs.Quits.{ended_at, stop_in, up_to_quit}
use Rattle.conn_worker.specs.Visits.{IsEnd, Standing, LinkEnds, TicksAt, IsLeft, EndsService}
use Rattle.conn_worker.specs.Visits.{ended_by, DeliversPart, DeliveryCounts, Leaves}
use Rattle.conn_worker.specs.Parts.{Breaks, InParts, Requests, Writes}

-- the most bytes of one read
abbrev pub most_read : ℕ
most_read = 16384

-- a Tick, or one that is left to the next read that brings nothing
abbrev pub TicksOrLeaves : Option ℕ → Place → Place → Type 0
TicksOrLeaves clock old new =
    TicksAt clock old new ⊎ ((e : Refusal) × IsLeft e × Refuses IsServerCause e old new)

-- a read of the link brought nothing: its count of idles rose, and a Tick was played
pub record Waits (clock : Option ℕ) (old new : Standing) : Type 0 where
  pub took : Consumes old.left new.left []
  pub kept : Keeps old.contents new.contents
  pub counted : IdleCounted old.counts new.counts
  pub ticks : TicksOrLeaves clock old.place new.place

-- a read of the link brought a piece
pub record Reads (piece : List ℕ) (old new : Standing) : Type 0 where
  pub short : length piece ≤ most_read
  pub took : Consumes old.left new.left piece
  pub kept : Keeps old.contents new.contents
  pub counts : new.counts ≡ old.counts
  pub place : new.place ≡ old.place

-- the requests are whole once `after` was read, and were not when `before` was; none behind a QUIT
abbrev pub AreNew : List ℕ → List ℕ → Requests → Type 0
AreNew before after requests = up_to_quit (requests_of after) ≡ requests_of before ++ requests

-- One read of the link, by which all that was read went from `before` to `after`, and what came of
-- it: all that waits was written, behind the requests of a piece, each of which ran.
pub data Round (clock : Option ℕ) (id : ℕ) (before after : List ℕ) (old new : Standing) : Type 0
  where
    Waited : (middle : Standing) → after ≡ before → Waits clock old middle → Writes id middle new
        → Round clock id before after old new
    Came : (middle : Standing) (piece : List ℕ) (requests : Requests) (now : ℕ)
        → after ≡ before ++ piece → Reads piece old middle → AreNew before after requests
        → IfSome clock (λ m. now ≡ m) → InParts now id requests middle new
        → Round clock id before after old new

-- whole rounds, one after another, and all that was read in them
pub data Rounds (clock : Option ℕ) (id : ℕ) (start : Standing) : List ℕ → Standing → Type 0 where
  Start : Rounds clock id start [] start
  Onward : (before after : List ℕ) (old new : Standing) → Rounds clock id start before old
      → Round clock id before after old new → Rounds clock id start after new

-- the round behind them, in which the service ended
pub data LastRound (clock : Option ℕ) (cause : Ended) (id : ℕ) (before after : List ℕ)
    (old new : Standing) : Type 0 where
  -- the link gave its end, or failed
  AtEnd : LinkEnds cause old.counts new.counts → after ≡ before → new.place ≡ old.place
      → Consumes old.left new.left [] → Keeps old.contents new.contents
      → LastRound clock cause id before after old new
  -- nothing came, and the Tick was refused: no ticket was left, or a SHUTDOWN ran
  NoTick : (e : Refusal) → EndsService e → cause ≡ ended_by e
      → IdleCounted old.counts new.counts → after ≡ before
      → Refuses IsServerCause e old.place new.place
      → Consumes old.left new.left [] → Keeps old.contents new.contents
      → LastRound clock cause id before after old new
  -- nothing came, and what waits was not all taken and written
  Undelivered : (middle : Standing) → after ≡ before → Waits clock old middle
      → DeliversPart cause id middle.contents new.contents middle.place new.place
      → DeliveryCounts (Err cause) middle.counts new.counts → Keeps middle.left new.left
      → LastRound clock cause id before after old new
  -- a piece came, and a turn for its requests was refused, or what waits was not all written
  Broken : (middle : Standing) (piece : List ℕ) (requests : Requests) (now ran : ℕ)
      → after ≡ before ++ piece → Reads piece old middle → AreNew before after requests
      → IfSome clock (λ m. now ≡ m) → Breaks now cause id requests ran middle new
      → LastRound clock cause id before after old new
  -- a QUIT ran, or the bytes have a fault, which is told once all that waits was written
  NoFurther : (stop : Stop) → cause ≡ ended_at stop → stop_in after ≡ Some stop
      → Round clock id before after old new → LastRound clock cause id before after old new

-- The service of an admitted connection. What was read before the last round has no QUIT and no
-- fault, and where all has one, that is the cause, unless a turn was refused before or a write
-- failed.
pub record Serves (clock : Option ℕ) (cause : Ended) (id : ℕ) (old new : Standing) : Type 0 where
  pub before : List ℕ
  pub middle : Standing
  pub rounds : Rounds clock id old before middle
  pub sound : stop_in before ≡ None
  pub after : List ℕ
  pub last : LastRound clock cause id before after middle new
  pub told : (stop : Stop) → stop_in after ≡ Some stop
      → (cause ≡ ended_at stop) ⊎ (cause ≡ ended.LinkFault) ⊎ IsEnd cause id [] new.place

-- a connection that was admitted, between its Admit and its Close
pub record ServedInRounds (clock : Option ℕ) (r : Report) (old new : Standing) : Type 0 where
  pub first : Place
  pub last : Place
  pub cause : Ended
  pub admits : Admits r.id old.place first
  pub serves : Serves clock cause r.id (record old { place = first })
      (record new { place = last })
  pub leaves : Leaves cause r.ended r.id last new.place

-- the rounds of a visit; none where the connection was not admitted
abbrev pub InRounds : Option ℕ → Report → Standing → Standing → Type 0
InRounds clock r old new = (r.id ≡ 0) ⊎ ServedInRounds clock r old new
