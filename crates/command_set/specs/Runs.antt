-- A run of a command together with the keys that are due, and how it is taken back.
use Rattle.std.specs.Prelude.{◌≡◌, ℕ, List, Result, Ok, Err}
use Rattle.resp_value.specs.declared.octets.NoMemory.{NoMemory}
use Rattle.command_words.specs.Effect.{Effect}
use Rattle.command_words.specs.Space.{Space}
use Rattle.expiry.specs.declared.index.Deadline.{Deadline}
use Rattle.command_set.specs.declared.database.Change.{Change}
use Rattle.command_set.specs.declared.database.Change.TheVariants.{Nothing, Keys, All}
use Rattle.command_set.specs.declared.database.Turned.{Turned}
use Rattle.command_set.specs.declared.database.Undo.{Undo}
use Rattle.command_set.specs.InStep.{InStep, due_keys}
use Rattle.command_set.specs.Priors.{priors_of, put_back}

-- the keys of the keyspace that are due, in order of deadline and key
pub record AreDue (moment : ℕ) (space : Space) (keys : List (List ℕ)) : Type 0 where
  pub index : List Deadline
  pub step : InStep index space
  pub listed : keys ≡ due_keys moment index

-- the reply, the signalled keys and the keyspace are those of the row; where memory ran out the
-- keyspace is as before
abbrev pub IsTurn : Effect → Result Turned NoMemory → Space → Space → Type 0
IsTurn row (Ok turned) old new =
    (turned.done.reply ≡ row.reply) × (turned.done.signalled ≡ row.signalled)
    × (new ≡ row.space)
IsTurn row (Err e) old new = new ≡ old

abbrev changed_back : Change → Space → Space
changed_back Nothing space = space
changed_back (Keys kept due seat) space =
    put_back (priors_of due.items) (put_back (priors_of kept.items) space)
changed_back (All old) space = old.value

-- the keyspace once the run is taken back
abbrev pub taken_back : Undo → Space → Space
taken_back undo space = changed_back undo.change space
