-- How a storm comes to its ending, and the statuses that it does not answer.
use Rattle.std.proofs.Common.{arith, ◌≡◌, ℕ, List, subst}
use Rattle.std.specs.declared.option.Option.{Option}
use Rattle.script_text.specs.Storm.{storm}
use Rattle.world_run.specs.WorldState.{WorldState, start}
use Rattle.world_run.specs.WorldHistory.{HasOneHistory}
use Rattle.world_run.proofs.Played.{events_played}
use Rattle.storm_run.specs.declared.play.Unplayed.{Unplayed}
use Rattle.storm_run.specs.declared.play.Unplayed.TheVariants as unplayed
use Rattle.storm_run.specs.Storming.{EndsStorm, MeetsFullLog, SumsUp}
use Rattle.redis_program.specs.declared.status.Status.{Status}
use Rattle.redis_program.specs.declared.status.Status.TheVariants as status
use Rattle.redis_program.specs.declared.status.Ending.{Ending}
use Rattle.redis_program.specs.declared.status.Ending.TheVariants.{Done, BadLine, ReadFault}
use Rattle.redis_program.specs.declared.status.Ending.TheVariants.{WriteFault, Refused, HistoryFull}
use Rattle.redis_program.specs.declared.status.Ending.TheVariants.{NoMemory}
use Rattle.redis_program.specs.Headline.{Writes, status_of}
use Rattle.redis_program.specs.Storming.{AllStormed, StormEnds, storm_limits}

-- what holds of every schedule holds of the world after a storm
pub all_stormed : HasOneHistory → (number steps : ℕ) (first w : WorldState) (text : List ℕ)
    → first ≡ start storm_limits → SumsUp first number steps w text → AllStormed number steps text
all_stormed law number steps first w text fresh summed =
    let s = subst (λ f. SumsUp f number steps w text) fresh summed in
    record {
      w = w;
      plays = events_played law storm_limits (storm number steps) w s.valid s.played;
      sums_up = s.text_is;
    }

pub full_log : (number steps : ℕ) (first : WorldState) (e : Unplayed) → e ≡ unplayed.HistoryFull
    → first ≡ start storm_limits → EndsStorm first number steps e
    → MeetsFullLog (start storm_limits) number steps
full_log number steps first unplayed.HistoryFull is fresh ends =
    subst (λ f. MeetsFullLog f number steps) fresh ends
full_log number steps first unplayed.NoMemory is fresh ends = absurd (let no : ⊥ = cc in no)

not_usage : (ending : Ending) → status_of ending ≡ status.Usage → ⊥
not_usage ending e = grind arith

not_read : (number steps : ℕ) (ending : Ending) (text : List ℕ) → StormEnds number steps ending text
    → status_of ending ≡ status.ReadFault → ⊥
not_read number steps ReadFault text s e = s
not_read number steps Done text s e = cc
not_read number steps (BadLine k) text s e = s
not_read number steps WriteFault text s e = s
not_read number steps (Refused k f) text s e = s
not_read number steps HistoryFull text s e = cc
not_read number steps NoMemory text s e = cc

module _ (number steps : ℕ) (answer : Status) (old new : Option (List ℕ))
    (w : Writes (StormEnds number steps) answer old new) where
  pub storm_not_usage : answer ≡ status.Usage → ⊥
  storm_not_usage e = grind (arith, not_usage)

  pub storm_not_read : answer ≡ status.ReadFault → ⊥
  storm_not_read e = grind (arith, not_read)
