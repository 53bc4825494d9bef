-- A connection that is served round by round, by whoever has its session.
use Rattle.std.specs.Prelude.{◌≡◌, ℕ, List, [], ◌∷◌, Option, Some, None}
use Rattle.shared_book.specs.Turns.{Place, Admits}
use Rattle.conn_worker.specs.declared.report.Ended.{Ended}
use Rattle.conn_worker.specs.declared.connection.Connection.{Connection}
use Rattle.conn_worker.specs.Visits.{Standing}
use Rattle.conn_worker.specs.Serving.{Closing, EndRound, NextRound, Serving}

-- A service: by which clock, with which seat before the Admit, with which link and seat behind it,
-- and with which now. `ended` is why it ended, if it did.
pub record Service : Type 0 where
  pub id : ℕ
  pub requests : ℕ
  pub ended : Option Ended
  pub clock : Option ℕ
  pub entered : Place
  pub start : Standing
  pub now : Standing

-- the newest of them, if there is one
abbrev pub newest : {A : Type 0} → A → List A → A
newest none [] = none
newest none (a ∷ older) = a

-- one Admit, and then whole rounds; or the last round too
pub record IsInService (ended : Option Ended) (clock : Option ℕ) (c : Connection)
    (entered : Place) (start now : Standing) : Type 0 where
  pub admits : Admits c.id entered start.place
  pub serving : ended ≡ None → Serving clock c.id c start now
  pub closing : (e : Ended) → ended ≡ Some e
      → (before : Standing) × Closing clock e c.id c.requests start before now

-- the same service
abbrev pub IsSameService : Service → Service → Type 0
IsSameService old new =
    (new.id ≡ old.id) × (new.clock ≡ old.clock) × (new.entered ≡ old.entered)
    × (new.start ≡ old.start)

-- its next round, or its last one
pub record HasRound (old new : Service) : Type 0 where
  pub next : new.ended ≡ None → NextRound old.clock old.id old.start old.now new.now
  pub last : (e : Ended) → new.ended ≡ Some e
      → EndRound old.clock e old.id old.start old.now new.now

-- the same seat of the same lock, later
abbrev pub IsOfSeat : Place → Place → Type 0
IsOfSeat old new =
    (new.lock ≡ old.lock) × (new.setup ≡ old.setup) × (new.parts ≡ old.parts)
