-- What all workers left: one history, and what the reports say of it.
use Rattle.std.specs.Prelude.{◌≡◌, ◌≤◌, ◌<◌, ℕ, List, true}
use Rattle.std.specs.List.{All}
use Rattle.turn_lock.specs.Counts.{total}
use Rattle.turn_lock.specs.History.{Legal, entries}
use Rattle.turn_lock.specs.Seats.{ClosedLock}
use Rattle.serial_model.specs.declared.history.Limits.{Limits}
use Rattle.serial_model.specs.declared.history.Entry.{Entry}
use Rattle.serial_model.specs.EntryEffects.{was_dropped}
use Rattle.shared_book.specs.Turns.{Shared, TurnStep}
use Rattle.conn_worker.specs.declared.report.Ended.TheVariants as ended
use Rattle.conn_worker.specs.declared.report.Report.{Report}
use Rattle.conn_pool.specs.Ties.{admits, runs, names, requests}
use Rattle.conn_pool.specs.Orders.{AreInOrder}
use Rattle.conn_pool.specs.Shown.{Shows}

-- the history drops the connection, where it is reported so
abbrev pub IsDroppedBy : Limits → List Entry → Report → Type 0
IsDroppedBy l past r = r.ended ≡ ended.Dropped → was_dropped l r.id past ≡ true

-- The book stands for one legal history of all seats. In it each Admit has its report, no two
-- reports name one connection, and each report's requests are the Runs of its connection. It shows
-- why each connection ended; one that is reported as dropped it drops.
pub record Stands (l : Limits) (reports : List Report) (book : ClosedLock Shared) : Type 0 where
  pub history : List (ℕ × Entry)
  pub legal : Legal TurnStep l history
  pub limits : book.state.limits ≡ l
  pub past : book.state.past ≡ entries history
  pub admitted : (n : ℕ) → 0 < n → total (admits n) (entries history) ≡ total (names n) reports
  pub ran : (n : ℕ) → 0 < n → total (runs n) (entries history) ≡ total (requests n) reports
  pub once : (n : ℕ) → 0 < n → total (names n) reports ≤ 1
  pub shown : All (Shows l book.state.past book.tickets) reports
  pub dropped : All (IsDroppedBy l book.state.past) reports
  pub in_order : AreInOrder reports
