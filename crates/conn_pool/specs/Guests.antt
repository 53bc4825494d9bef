-- Connections of a worker, each with one part of what the worker has.
use Rattle.std.specs.Prelude.{◌≡◌, ℕ, List, [], Option, Bool}
use Rattle.atomic_table.specs.Seated.{TableId}
use Rattle.serial_model.specs.declared.history.Limits.{Limits}
use Rattle.shared_book.specs.Turns.{Place}
use Rattle.conn_worker.specs.declared.report.Report.{Report}
use Rattle.conn_worker.specs.Visits.{Visits}
use Rattle.conn_pool.specs.Crew.{Team, IsOf}

-- a seat of this lock with one part
abbrev pub IsSeatOf : TableId → Option Limits → Place → Type 0
IsSeatOf lock setup k = (k.lock ≡ lock) × (k.setup ≡ setup) × (k.parts ≡ 1)

-- what a worker has of one connection that came and went
abbrev pub IsVisit : TableId → Option Limits → Bool → Team → Type 0
IsVisit lock setup each t =
    IsOf lock setup each t × (t.seat.parts ≡ 1) × (t.link_parts ≡ 1) × (t.gone_parts ≡ 1)
    × (t.gone ≡ 0)

-- the report is of a visit by a seat that had no turns
pub record HasVisited (lock : TableId) (setup : Option Limits) (r : Report) (seat : Place) : Type 0
  where
    pub clock : Option ℕ
    pub left0 : Option (List ℕ)
    pub left1 : Option (List ℕ)
    pub link0 : Option (List ℕ)
    pub link1 : Option (List ℕ)
    pub entered : Place
    pub is_of : IsSeatOf lock setup entered
    pub none : entered.own ≡ []
    pub visits : Visits clock r left0 left1 link0 link1 entered seat
