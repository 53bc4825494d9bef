-- Why a connection that was served had ended, where its worker's own turns did not end it.
use Rattle.std.specs.Prelude.{◌≡◌, ◌<◌, ◌&&◌, ◌==◌, ℕ, List, cond, true}
use Rattle.turn_lock.specs.Counts.{total}
use Rattle.serial_model.specs.declared.history.Entry.{Entry}
use Rattle.serial_model.specs.declared.history.Entry.TheVariants as entry
use Rattle.serial_model.specs.EntryEffects.{was_dropped}
use Rattle.serial_model.specs.History.{gives_on, has_ended, is_quit}
use Rattle.turn_lock.specs.Own.{past_of}
use Rattle.shared_book.specs.Turns.{Place, Turn, limits_of}

-- 1 for a Close of the connection
abbrev pub closes : ℕ → Entry → ℕ
closes id (entry.Admit n) = 0
closes id (entry.Run n words moment) = 0
closes id (entry.Tick moment) = 0
closes id (entry.Take n most) = 0
closes id (entry.Close n) = cond (n == id) 1 0

-- 1 for a QUIT of it
abbrev pub quits : ℕ → Entry → ℕ
quits id (entry.Admit n) = 0
quits id (entry.Run n words moment) = cond ((n == id) && is_quit words) 1 0
quits id (entry.Tick moment) = 0
quits id (entry.Take n most) = 0
quits id (entry.Close n) = 0

abbrev pub closes_in : ℕ → List Turn → ℕ
closes_in id ts = total (λ (t : Turn). closes id t.0) ts

abbrev pub quits_in : ℕ → List Turn → ℕ
quits_in id ts = total (λ (t : Turn). quits id t.0) ts

-- By none of these turns: the history drops the connection, or more Closes or QUITs of it were seen
-- than are among them. Where a QUIT is among them, it was a Close.
pub data Elsewhere (id : ℕ) (turns : List Turn) (k : Place) : Type 0 where
  Dropped : quits_in id turns ≡ 0 → was_dropped (limits_of k) id (past_of k) ≡ true
      → Elsewhere id turns k
  Closed : closes_in id turns < total (closes id) (past_of k) → Elsewhere id turns k
  Quit : quits_in id turns ≡ 0 → 0 < total (quits id) (past_of k) → Elsewhere id turns k

-- the connection has ended, and by none of these turns
pub record HadEnded (id : ℕ) (turns : List Turn) (k : Place) : Type 0 where
  pub ended : has_ended (limits_of k) id (past_of k) ≡ true
  pub by : Elsewhere id turns k

-- the connection has ended by a QUIT of it: what waits for it can still be taken
pub record HasQuit (id : ℕ) (k : Place) : Type 0 where
  pub ended : has_ended (limits_of k) id (past_of k) ≡ true
  pub gives : gives_on (limits_of k) (past_of k) id ≡ true
