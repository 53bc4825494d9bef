-- Reports and the turns that they speak of.
use Rattle.std.specs.Prelude.{◌≡◌, ◌<◌, ◌≤◌, ◌+◌, ℕ, ◌==◌, cond, List}
use Rattle.turn_lock.specs.Counts.{total}
use Rattle.serial_model.specs.declared.history.Entry.{Entry}
use Rattle.serial_model.specs.declared.history.Entry.TheVariants.{Admit, Run, Tick, Take, Close}
use Rattle.shared_book.specs.Turns.{Turn}
use Rattle.conn_worker.specs.declared.report.Report.{Report}
use Rattle.conn_worker.specs.declared.report.Ended.{Ended}
use Rattle.conn_worker.specs.declared.report.Ended.TheVariants as ended
use Rattle.conn_worker.specs.Elsewhere.{closes, closes_in, quits_in}

-- an Admit of the connection, and a Run of it
abbrev pub admits : ℕ → Entry → ℕ
admits n (Admit id) = cond (id == n) 1 0
admits n (Run id words moment) = 0
admits n (Tick moment) = 0
admits n (Take id most) = 0
admits n (Close id) = 0

abbrev pub runs : ℕ → Entry → ℕ
runs n (Admit id) = 0
runs n (Run id words moment) = cond (id == n) 1 0
runs n (Tick moment) = 0
runs n (Take id most) = 0
runs n (Close id) = 0

-- a report of the connection, and its requests
abbrev pub names : ℕ → Report → ℕ
names n r = cond (r.id == n) 1 0

abbrev pub requests : ℕ → Report → ℕ
requests n r = cond (r.id == n) r.requests 0

abbrev pub admitted_in : ℕ → List Turn → ℕ
admitted_in n ts = total (λ (t : Turn). admits n t.0) ts

abbrev pub ran_in : ℕ → List Turn → ℕ
ran_in n ts = total (λ (t : Turn). runs n t.0) ts

-- each Admit has its report, and each Run is counted in one
unfoldable pub Tied : List Report → List Turn → Type 0
Tied reports turns = (n : ℕ) → 0 < n → (admitted_in n turns ≡ total (names n) reports)
    × (ran_in n turns ≡ total (requests n) reports)

-- a report tells what was added
unfoldable pub Tells : Report → List Turn → List Turn → Type 0
Tells r old new = (n : ℕ) → 0 < n → (admitted_in n new ≡ names n r + admitted_in n old)
    × (ran_in n new ≡ requests n r + ran_in n old)

-- a number that counts for each end of a connection but that it was dropped
abbrev pub unless_dropped : Ended → ℕ → ℕ
unless_dropped ended.PeerEnd n = n
unless_dropped ended.Quit n = n
unless_dropped ended.Dropped n = 0
unless_dropped (ended.BadRequest fault) n = n
unless_dropped ended.LinkFault n = n
unless_dropped ended.NoMemory n = n
unless_dropped ended.Worn n = n
unless_dropped ended.Stopped n = n

-- at most so many Closes and QUITs of the connection does a report speak of
abbrev pub closing : ℕ → Report → ℕ
closing n r = cond (r.id == n) (unless_dropped r.ended 1) 0

abbrev pub quitting : ℕ → Report → ℕ
quitting n r = cond (r.id == n) (unless_dropped r.ended r.requests) 0

-- A connection that is reported as dropped was closed by none of these turns, nor did its QUIT run
-- in one, unless the history has a Close of it.
unfoldable pub Parted : List Report → List Turn → List Entry → Type 0
Parted reports turns past = (n : ℕ) → 0 < n → (closes_in n turns ≤ total (closing n) reports)
    × (total (closes n) past ≡ 0 → quits_in n turns ≤ total (quitting n) reports)
