-- What an event of a storm may meet.
use Rattle.std.specs.Prelude.{◌≡◌, ◌++◌, ℕ, List, ◌∷◌}
use Rattle.std.specs.declared.option.Option.TheVariants.{Some}
use Rattle.serial_model.specs.declared.history.Limits.{Limits}
use Rattle.script_text.specs.declared.event.Event.{Event}
use Rattle.script_text.specs.Storm.{storm}
use Rattle.server_links.specs.declared.fault.WorldFault.{WorldFault}
use Rattle.server_links.specs.declared.fault.WorldFault.TheVariants.{NoName, NameTaken}
use Rattle.server_links.specs.declared.fault.WorldFault.TheVariants.{NothingThere}
use Rattle.server_links.specs.declared.fault.WorldFault.TheVariants.{NoMemory, Refused, HistoryFull}
use Rattle.world_run.specs.WorldState.{WorldState, start_with}
use Rattle.world_run.specs.World.{step}
use Rattle.world_run.specs.WorldTranscript.{after}

-- the log of a client is full
abbrev pub IsFull : WorldFault → Type 0
IsFull NoName = ⊥
IsFull NameTaken = ⊥
IsFull NothingThere = ⊥
IsFull NoMemory = ⊥
IsFull (Refused number) = ⊥
IsFull (HistoryFull entries) = Unit {0}

-- no other fault meets the event
abbrev pub IsPlayed : WorldState → Event → Type 0
IsPlayed w event = (fault : WorldFault) → (step w event).fault ≡ Some fault → IsFull fault

-- Whatever the limits of the server and of the clients' logs, once events of a storm were played,
-- nothing but a client's full log stops the next one.
abbrev pub StormsArePlayed : Type 0
StormsArePlayed = (l : Limits) (log_max number steps : ℕ) (before rest : List Event)
    (event : Event) (w : WorldState) → before ++ event ∷ rest ≡ storm number steps
    → after (start_with l log_max) before ≡ Some w → IsPlayed w event
