-- What the workers of an acceptor come to as a whole, where it did not fail.
use Rattle.std.specs.Prelude.{◌≡◌, ◌<◌, ◌⊎◌, ⊤, ℕ, List, Bool, false, true, length}
use Rattle.std.specs.List.{All}
use Rattle.turn_lock.specs.declared.rule.TheConstants.{LAST_TICKET}
use Rattle.turn_lock.specs.Seats.{ClosedLock}
use Rattle.edge_links.specs.declared.counts.Counts.{Counts}
use Rattle.edge_links.specs.Counts.{Counted}
use Rattle.serial_model.specs.declared.history.Limits.{Limits}
use Rattle.serial_model.specs.History.{is_stopped}
use Rattle.shared_book.specs.Turns.{Shared}
use Rattle.conn_worker.specs.declared.report.Report.{Report}
use Rattle.conn_worker.specs.declared.report.Ended.{Ended}
use Rattle.conn_worker.specs.declared.report.Ended.TheVariants as ended

-- such an end is that of one connection alone: by its peer or its bytes, its QUIT, what the history
-- has of it, a fault of its link or want of memory
abbrev pub IsItsOwn : Ended → Type 0
IsItsOwn ended.PeerEnd = ⊤
IsItsOwn ended.Quit = ⊤
IsItsOwn ended.Dropped = ⊤
IsItsOwn (ended.BadRequest fault) = ⊤
IsItsOwn ended.LinkFault = ⊤
IsItsOwn ended.NoMemory = ⊤
IsItsOwn ended.Worn = ⊥
IsItsOwn ended.Stopped = ⊥

-- No accept is told as failed, and the work ended since the acceptor was closed, gave as many links
-- as it was to, or a SHUTDOWN ran. Where none ran and a ticket was left, no connection ended but by
-- itself.
pub record Completes (limits : Limits) (connections : ℕ) (old new : Counts) (reports : List Report)
    (book : ClosedLock Shared) (accept_failed : Bool) : Type 0 where
  pub accepted : accept_failed ≡ false
  pub over : Counted old.ends new.ends ⊎ (0 < connections) × (length reports ≡ connections)
      ⊎ (is_stopped limits book.state.past ≡ true)
  pub own : book.tickets < LAST_TICKET → (is_stopped limits book.state.past ≡ true → ⊥)
      → All (λ (r : Report). IsItsOwn r.ended) reports
