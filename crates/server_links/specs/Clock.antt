-- The clock of a schedule, and the moments that it gives the entries of a history.
use Rattle.std.specs.Prelude.{◌≡◌, ℕ, List, [], ◌∷◌, ◌++◌, max}
use Rattle.serial_model.specs.declared.history.Entry.{Entry}
use Rattle.serial_model.specs.declared.history.Entry.TheVariants as entry
use Rattle.server_links.specs.LinkEvent.{LinkEvent, Now}
use Rattle.server_links.specs.LinksState.{LinksState}
use Rattle.server_links.specs.LinkSteps.{step}

-- the moments of the Runs and the Ticks among these entries, the newest first
abbrev pub moments : List Entry → List ℕ
moments [] = []
moments (entry.Admit id ∷ past) = moments past
moments (entry.Run id words moment ∷ past) = moment ∷ moments past
moments (entry.Tick moment ∷ past) = moment ∷ moments past
moments (entry.Take id max ∷ past) = moments past
moments (entry.Close id ∷ past) = moments past

-- the greatest of them, 0 where there is none
abbrev pub greatest : List ℕ → ℕ
greatest [] = 0
greatest (m ∷ ms) = max m (greatest ms)

-- each of these moments, the newest first, is the greatest of the clock and of all before it
abbrev pub AreTimedBy : ℕ → List ℕ → List ℕ → Type 0
AreTimedBy clock [] before = Unit {0}
AreTimedBy clock (m ∷ ms) before =
    (m ≡ max clock (greatest (ms ++ before))) × AreTimedBy clock ms before

-- a history grew by entries whose moments are by this clock
pub record GrowsAt (clock : ℕ) (past new : List Entry) : Type 0 where
  pub entries : List Entry
  pub grows : new ≡ entries ++ past
  pub timed : AreTimedBy clock (moments entries) (moments past)

-- the clock after an event: `now` sets it
abbrev pub clock_after : ℕ → LinkEvent → ℕ
clock_after clock (Now moment) = moment
clock_after clock event = clock

-- What each event of a schedule adds to the history is by the clock that the last `now` before it
-- set.
abbrev pub KeepsTime : ℕ → LinksState → List LinkEvent → Type 0
KeepsTime clock w [] = Unit {0}
KeepsTime clock w (e ∷ events) =
    GrowsAt clock w.past (step w e).state.past
    × KeepsTime (clock_after clock e) (step w e).state events
