-- What contracts see of the history as it is kept: the whole of it, though its older entries are in
-- no memory.
use Rattle.std.specs.Prelude.{◌≡◌, ◌+◌, ◌-◌, ◌%◌, ◌<◌, ◌≤◌, ◌^◌, ℕ, List, true, false, length}
use Rattle.std.specs.Prelude.{if◌then◌else◌, reverse, take, Option, Some, None, slice_index_or}
use Rattle.std.specs.Prelude.{slice_set, [], ◌∷◌, ◌++◌}
use Rattle.serial_model.specs.declared.history.Entry.{Entry}
use Rattle.serial_model.specs.declared.history.Entry.TheVariants.{Admit, Run, Tick, Take, Close}
use Rattle.serial_model.specs.History.{admitted, is_admitted, latest, runs_of}

-- how many of so many entries are kept: once there are `most` of them, all are let go
abbrev pub kept : ℕ → List Entry → ℕ
kept most past = length past % most

-- how many were let go, which are the oldest
abbrev pub base : ℕ → List Entry → ℕ
base most past = length past - kept most past

-- how many Runs of a connection there are, where it was admitted
abbrev pub runs : List Entry → ℕ → Option ℕ
runs past id = if is_admitted past id then Some (length (runs_of id past)) else None

-- The history with its newest entry first. Room is kept for `closable` Closes, and beside them for
-- `free` entries; and so are their numbers. `ids` more connections can be admitted.
pub record LogState : Type 0 where
  pub most : ℕ
  pub past : List Entry
  pub closable : ℕ
  pub free : ℕ
  pub ids : ℕ

-- there is a place for the entry: an Admit needs another for its Close, and a Close has its own
abbrev pub HasPlace : LogState → Entry → Type 0
HasPlace g (Admit id) = (2 ≤ g.free) × (1 ≤ g.ids) × (id ≡ admitted g.past + 1)
HasPlace g (Run id words moment) = (1 ≤ g.free) × (is_admitted g.past id ≡ true)
HasPlace g (Tick moment) = 1 ≤ g.free
HasPlace g (Take id max) = 1 ≤ g.free
HasPlace g (Close id) = 1 ≤ g.closable

-- how many Closes room is kept for, after an entry
abbrev pub closable_after : ℕ → Entry → ℕ
closable_after closable (Admit id) = closable + 1
closable_after closable (Run id words moment) = closable
closable_after closable (Tick moment) = closable
closable_after closable (Take id max) = closable
closable_after closable (Close id) = closable - 1

-- the numbers of Runs of connections 1, 2, .. after an entry
abbrev pub counted : List ℕ → Entry → List ℕ
counted counts (Admit id) = counts ++ 0 ∷ []
counted counts (Run id words moment) =
    slice_set counts (id - 1) (slice_index_or counts (id - 1) 0 + 1)
counted counts (Tick moment) = counts
counted counts (Take id max) = counts
counted counts (Close id) = counts

-- there is room for one more number, and the one of the entry's connection can rise
abbrev pub HasCounter : List ℕ → ℕ → Entry → Type 0
HasCounter counts room (Admit id) = 1 ≤ room
HasCounter counts room (Run id words moment) =
    (0 < id) × (id ≤ length counts) × (slice_index_or counts (id - 1) 0 + 1 < 2 ^ 64)
HasCounter counts room (Tick moment) = Unit {0}
HasCounter counts room (Take id max) = Unit {0}
HasCounter counts room (Close id) = Unit {0}

-- the Runs that are counted are those of the history
pub record AreCounted (counts : List ℕ) (past : List Entry) : Type 0 where
  pub count : length counts ≡ admitted past
  pub each : (id : ℕ) → is_admitted past id ≡ true
      → slice_index_or counts (id - 1) 0 ≡ length (runs_of id past)
  pub none : (id : ℕ) → is_admitted past id ≡ false → length (runs_of id past) ≡ 0

-- what is in memory is of the whole history: its newest entries, its greatest moment, its runs
pub record IsLog (most moment base closable room : ℕ) (recent past : List Entry) : Type 0 where
  pub some : 0 < most
  pub moment_is : moment ≡ latest past
  pub count : base + length recent ≡ length past
  pub newest : reverse recent ≡ take (kept most past) past
  pub closes : closable ≤ room
  pub numbers : length past + closable < 2 ^ 64
