-- What a history and its lock show of a connection that was reported.
use Rattle.std.specs.Prelude.{◌≡◌, ◌≤◌, ◌<◌, ◌⊎◌, ℕ, List, true, ⊤}
use Rattle.std.specs.List.{All}
use Rattle.turn_lock.specs.declared.rule.TheConstants.{LAST_TICKET}
use Rattle.serial_model.specs.declared.history.Limits.{Limits}
use Rattle.serial_model.specs.declared.history.Entry.{Entry}
use Rattle.serial_model.specs.History.{has_ended, is_stopped}
use Rattle.turn_lock.specs.Own.{past_of}
use Rattle.shared_book.specs.Turns.{Place, limits_of}
use Rattle.conn_worker.specs.declared.report.Report.{Report}
use Rattle.conn_worker.specs.declared.report.Ended.{Ended}
use Rattle.conn_worker.specs.declared.report.Ended.TheVariants as ended
use Rattle.conn_worker.specs.Quits.{has_quit}

-- the history and the number of tickets that were drawn show why the connection ended, where it was
-- neither its link nor want of memory
abbrev pub ShowsEnd : Ended → Limits → List Entry → ℕ → ℕ → Type 0
ShowsEnd ended.PeerEnd l past tickets id = ⊤
ShowsEnd ended.Quit l past tickets id = has_quit id past ≡ true
ShowsEnd ended.Dropped l past tickets id = has_ended l id past ≡ true
ShowsEnd (ended.BadRequest fault) l past tickets id = ⊤
ShowsEnd ended.LinkFault l past tickets id = ⊤
ShowsEnd ended.NoMemory l past tickets id = ⊤
ShowsEnd ended.Worn l past tickets id = LAST_TICKET ≤ tickets
ShowsEnd ended.Stopped l past tickets id = is_stopped l past ≡ true

-- a connection may end so without having been admitted
abbrev pub IsUnadmitted : Ended → Type 0
IsUnadmitted ended.PeerEnd = ⊥
IsUnadmitted ended.Quit = ⊥
IsUnadmitted ended.Dropped = ⊥
IsUnadmitted (ended.BadRequest fault) = ⊥
IsUnadmitted ended.LinkFault = ⊥
IsUnadmitted ended.NoMemory = ⊤
IsUnadmitted ended.Worn = ⊤
IsUnadmitted ended.Stopped = ⊤

-- An admitted connection has ended in the history, unless no ticket was left; one with the id 0 was
-- refused.
pub record Shows (l : Limits) (past : List Entry) (tickets : ℕ) (r : Report) : Type 0 where
  pub cause : ShowsEnd r.ended l past tickets r.id
  pub over : 0 < r.id → (has_ended l r.id past ≡ true) ⊎ (LAST_TICKET ≤ tickets)
  pub refused : r.id ≡ 0 → IsUnadmitted r.ended
  -- was refused, and ran nothing
  pub idle : r.id ≡ 0 → r.requests ≡ 0

-- what a seat has seen shows each of the reports
unfoldable pub AreShown : List Report → Place → Type 0
AreShown reports k = All (Shows (limits_of k) (past_of k) k.tickets) reports
