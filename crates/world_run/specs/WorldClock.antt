-- The clock of a schedule over a world, and the moments that it gives the entries of the history.
use Rattle.std.specs.Prelude.{ℕ, List, [], ◌∷◌}
use Rattle.script_text.specs.declared.event.Event.{Event}
use Rattle.script_text.specs.declared.event.Event.TheVariants.{Now}
use Rattle.server_links.specs.Clock.{GrowsAt}
use Rattle.world_run.specs.WorldState.{WorldState}
use Rattle.world_run.specs.World.{step}

-- the clock after an event: `now` sets it
abbrev pub clock_after : ℕ → Event → ℕ
clock_after clock (Now moment) = moment
clock_after clock event = clock

-- What each event of a schedule adds to the history is by the clock that the last `now` before it
-- set.
abbrev pub KeepsTime : ℕ → WorldState → List Event → Type 0
KeepsTime clock w [] = Unit {0}
KeepsTime clock w (e ∷ events) =
    GrowsAt clock w.links.past (step w e).state.links.past
    × KeepsTime (clock_after clock e) (step w e).state events
