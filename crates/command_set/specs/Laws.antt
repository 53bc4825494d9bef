-- What the rows of commands do to deadlines, and which index is in step.
use Rattle.std.specs.Prelude.{◌≡◌, ◌⊎◌, ℕ, List, [], false, Option, Some}
use Rattle.std.specs.FinMap.{empty}
use Rattle.command_words.specs.declared.command.Command.{Command}
use Rattle.command_words.specs.declared.written.Written.{Written}
use Rattle.command_words.specs.Effects.{effect}
use Rattle.command_words.specs.Queries.{written, names}
use Rattle.command_words.specs.Space.{Space, held_at, deadline_at}
use Rattle.expiry.specs.declared.index.Deadline.{Deadline}
use Rattle.command_set.specs.InStep.{InStep}
use Rattle.command_set.specs.NewDeadlines.{new_deadline}

abbrev pub NothingIsInStep : Type 0
NothingIsInStep = InStep [] empty

abbrev pub OneIndexIsInStep : Type 0
OneIndexIsInStep =
    (ds es : List Deadline) (space : Space) → InStep ds space → InStep es space → ds ≡ es

-- a deadline was the key's, or is the new one
abbrev pub Source : Option Deadline → Space → List ℕ → ℕ → Type 0
Source new space key at =
    (deadline_at key space ≡ Some at) ⊎ (new ≡ Some (record { at = at; key = key }))

-- from one keyspace to another: only these keys change, and a deadline has its source
pub record Moves (keys : Written) (new : Option Deadline) (old after : Space) : Type 0 where
  pub stays : (key : List ℕ) → names keys key ≡ false → held_at key after ≡ held_at key old
  pub from : (key : List ℕ) (at : ℕ) → deadline_at key after ≡ Some at → Source new old key at

abbrev pub RowsMoveWhatTheyWrite : Type 0
RowsMoveWhatTheyWrite =
    (command : Command) (space : Space) (moment : ℕ)
    → Moves (written command) (new_deadline command space moment) space
    ((effect command space moment).space)
