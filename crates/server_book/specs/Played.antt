-- What was played of a request on a keyspace.
use Rattle.std.specs.Prelude.{◌≡◌, ℕ, List, Result, Ok, Err}
use Rattle.resp_value.specs.declared.octets.NoMemory.{NoMemory}
use Rattle.command_words.specs.declared.command.Command.{Command}
use Rattle.command_words.specs.Effects.{effect}
use Rattle.command_words.specs.Expiry.{without_due}
use Rattle.command_words.specs.Space.{Space}
use Rattle.command_set.specs.Runs.{taken_back}
use Rattle.serial_model.specs.Modes.{Runner}
use Rattle.serial_model.specs.Deadlines.{due_keys}
use Rattle.serial_model.specs.History.{ran_over}
use Rattle.server_book.specs.declared.plan.Played.{Played}
use Rattle.server_book.specs.Plans.{PlansRead, PlansWords}

-- the keys that were due have left, the plan and the keyspace are those of the words after them,
-- and the keyspace can be put back
pub record HasPlayed (by : Runner) (words : List (List ℕ)) (moment : ℕ) (played : Played)
    (old new : Space) : Type 0 where
  pub expired : played.expired ≡ due_keys moment old
  pub plan : PlansWords played.plan by words (without_due moment old) moment
  pub space : new ≡ (ran_over (without_due moment old) by words moment).space
  pub undo : taken_back played.undo new ≡ old

-- where memory ran out the keyspace is as before
abbrev pub IsPlayed : Runner → List (List ℕ) → ℕ → Result Played NoMemory → Space → Space
    → Type 0
IsPlayed by words moment (Ok played) old new = HasPlayed by words moment played old new
IsPlayed by words moment (Err e) old new = new ≡ old

-- a data command that its mode allows was played, whatever words it was read from
pub record HasRow (by : Runner) (command : Command) (moment : ℕ) (played : Played)
    (old new : Space) : Type 0 where
  pub expired : played.expired ≡ due_keys moment old
  pub plan : (words : List (List ℕ))
      → PlansRead played.plan by words (Ok command) (without_due moment old) moment
  pub space : new ≡ (effect command (without_due moment old) moment).space
  pub undo : taken_back played.undo new ≡ old
