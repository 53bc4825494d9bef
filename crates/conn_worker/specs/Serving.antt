-- A connection in service, and how a round takes it onward or ends its service.
use Rattle.std.specs.Prelude.{◌≡◌, ◌≤◌, ℕ, List, Option, None, length, true}
use Rattle.std.specs.List.{All}
use Rattle.std.specs.Io.KnownBytes.{Appends, Consumes}
use Rattle.resp_stream.specs.Parse.{parse, requests_of}
use Rattle.resp_stream.proofs.Onward as onward
use Rattle.serial_model.specs.History.{is_admitted, reads_on, taken}
use Rattle.turn_lock.specs.Own.{past_of, Grows}
use Rattle.shared_book.specs.Turns.{Turn, limits_of}
use Rattle.conn_worker.specs.declared.report.Ended.{Ended}
use Rattle.conn_worker.specs.declared.connection.Connection.{Connection}
use Rattle.conn_worker.specs.Quits.{stop_in}
use Rattle.conn_worker.specs.Visits.{EndCounts, IsTaken, IsWork, Standing, Works, gave, runs_in}
use Rattle.conn_worker.specs.Rounds.{LastRound, Round, Rounds, Serves}

-- all that was read ran, in whole rounds, and all that this gave was written
pub record Serving (clock : Option ℕ) (id : ℕ) (c : Connection) (start now : Standing) : Type 0
  where
    pub turns : List Turn
    pub grows : Grows start.place now.place turns
    pub work : All (IsWork id clock) turns
    pub id_is : c.id ≡ id
    pub counted : c.requests ≡ length (runs_in turns)
    pub fits : c.requests ≤ length now.place.seen
    pub heard : List ℕ
    pub read : Consumes start.left now.left heard
    pub rounds : Rounds clock id start heard now
    pub reading : onward.GoesOn parse heard c.reader
    pub sound : stop_in heard ≡ None
    pub runs : runs_in turns ≡ requests_of heard
    pub wrote : Appends start.contents now.contents (gave (limits_of start.place) turns)
    pub was_taken : reads_on (limits_of start.place) (past_of now.place) id ≡ true
        → All (IsTaken (limits_of start.place) id
        (taken (limits_of start.place) id (past_of now.place))) turns
    pub admitted : is_admitted (past_of now.place) id ≡ true
    pub faults : now.counts.faults ≡ start.counts.faults
    pub ends : now.counts.ends ≡ start.counts.ends

-- it is served, from some start on
pub record IsServed (clock : Option ℕ) (c : Connection) (now : Standing) : Type 0 where
  pub id : ℕ
  pub start : Standing
  pub serving : Serving clock id c start now

-- a round behind those since the start
pub record NextRound (clock : Option ℕ) (id : ℕ) (start now next : Standing) : Type 0 where
  pub before : List ℕ
  pub after : List ℕ
  pub rounds : Rounds clock id start before now
  pub round : Round clock id before after now next

-- the round behind them in which the service ended
pub record EndRound (clock : Option ℕ) (cause : Ended) (id : ℕ) (start now next : Standing)
    : Type 0 where
  pub before : List ℕ
  pub after : List ℕ
  pub rounds : Rounds clock id start before now
  pub last : LastRound clock cause id before after now next

-- the service has ended, by this round
pub record Closing (clock : Option ℕ) (cause : Ended) (id requests : ℕ)
    (start now next : Standing) : Type 0 where
  pub works : Works clock cause id requests start.left next.left start.contents next.contents
      start.place next.place
  pub serves : Serves clock cause id start next
  pub counts : EndCounts cause start.counts next.counts
  pub round : EndRound clock cause id start now next

-- one more round, wherever the service began
abbrev pub GoesOn : Option ℕ → Connection → Connection → Standing → Standing → Type 0
GoesOn clock before after now next =
    (id : ℕ) (start : Standing) → Serving clock id before start now
    → Serving clock id after start next × NextRound clock id start now next

-- the last one
abbrev pub GoesOff : Option ℕ → Ended → Connection → Connection → Standing → Standing → Type 0
GoesOff clock cause before after now next =
    (id : ℕ) (start : Standing) → Serving clock id before start now
    → Closing clock cause id after.requests start now next
