-- What a run of a storm writes.
use Rattle.std.specs.Prelude.{◌≡◌, ℕ, List, []}
use Rattle.std.specs.declared.option.Option.TheVariants.{Some}
use Rattle.serial_model.specs.declared.history.Limits.{Limits}
use Rattle.script_text.specs.Storm.{storm}
use Rattle.command_line.specs.declared.settings.Asked.TheVariants as asked
use Rattle.command_line.specs.declared.settings.StormSettings.{StormSettings}
use Rattle.command_line.specs.Commands.{command_of}
use Rattle.world_run.specs.Played.{PlaysEvents}
use Rattle.world_run.specs.WorldState.{WorldState, start}
use Rattle.world_run.specs.WorldTranscript.{transcript}
use Rattle.storm_run.specs.Storming.{MeetsFullLog, summary}
use Rattle.redis_program.specs.declared.status.Ending.{Ending}
use Rattle.redis_program.specs.declared.status.Ending.TheVariants.{Done, BadLine, ReadFault}
use Rattle.redis_program.specs.declared.status.Ending.TheVariants.{WriteFault, Refused, HistoryFull}
use Rattle.redis_program.specs.declared.status.Ending.TheVariants.{NoMemory}

-- the words ask for a storm
abbrev pub AsksForStorm : List (List ℕ) → Type 0
AsksForStorm words = (settings : StormSettings) × (command_of words ≡ Some (asked.Storm settings))

-- those of a world where the words name none
abbrev pub storm_limits : Limits
storm_limits = record { table_max = 1000000; out_max = 8388608; history_max = 4000000 }

-- all of its events were played, and this is the summary of the world after them
pub record AllStormed (number steps : ℕ) (text : List ℕ) : Type 0 where
  pub w : WorldState
  pub plays : PlaysEvents storm_limits (storm number steps) w
  pub sums_up : text ≡ summary steps (transcript (start storm_limits) (storm number steps)) w

-- The storm comes to this ending, with this summary, or with none where it was not played to its
-- end. No event of it is refused.
abbrev pub StormEnds : ℕ → ℕ → Ending → List ℕ → Type 0
StormEnds number steps Done text = AllStormed number steps text
StormEnds number steps (BadLine line) text = ⊥
StormEnds number steps ReadFault text = ⊥
StormEnds number steps WriteFault text = ⊥
StormEnds number steps (Refused line fault) text = ⊥
StormEnds number steps HistoryFull text =
    MeetsFullLog (start storm_limits) number steps × (text ≡ [])
StormEnds number steps NoMemory text = text ≡ []
