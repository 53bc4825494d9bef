-- Commands that take out what their key holds, or a part of it, or put a number or a string in its
-- place.
use Rattle.std.specs.Prelude.{ℕ, List, [], ◌∷◌, Bool, true, false, Option, Some, None}
use Rattle.command_words.specs.declared.command.Command.{Command}
use Rattle.command_words.specs.declared.command.Command.TheVariants.{GetDel, HDel, Incr, Decr}
use Rattle.command_words.specs.declared.command.Command.TheVariants.{IncrBy, DecrBy, HIncrBy, Set}
use Rattle.command_words.specs.declared.command.SetLife.{SetLife}
use Rattle.command_words.specs.declared.command.SetLife.TheVariants.{Cleared, Seconds, Millis, Kept}
use Rattle.command_words.specs.Space.{Held}
use Rattle.hash_cmds.specs.declared.numbers.FieldChange.{FieldChange}
use Rattle.hash_cmds.specs.declared.numbers.FieldChange.TheVariants as change
use Rattle.command_set.specs.Priors.{Priors, Field, Whole}

-- a command that adds to a number
abbrev pub is_counter : Command → Bool
is_counter (Incr key) = true
is_counter (Decr key) = true
is_counter (IncrBy key n) = true
is_counter (DecrBy key n) = true
is_counter _ = false

-- SET gives no deadline
abbrev pub gives_none : SetLife → Bool
gives_none Cleared = true
gives_none (Seconds n) = false
gives_none (Millis n) = false
gives_none Kept = true

unfoldable pub takes_out : Command → Bool
takes_out (Set key value when life) = gives_none life
takes_out (GetDel key) = true
takes_out (HDel key names) = true
takes_out (HIncrBy key field n) = true
takes_out (Incr key) = true
takes_out (Decr key) = true
takes_out (IncrBy key n) = true
takes_out (DecrBy key n) = true
takes_out _ = false

-- what a key held, if it went
abbrev pub went : List ℕ → Option Held → Priors
went key None = []
went key (Some held) = (key, Whole (Some held)) ∷ []

-- what a key held, where it changed
abbrev pub changed : List ℕ → Option (Option Held) → Priors
changed key None = []
changed key (Some had) = (key, Whole had) ∷ []

-- what a field held, or that the key was missing
abbrev pub field_changed : List ℕ → List ℕ → FieldChange → Priors
field_changed key field change.Nothing = []
field_changed key field (change.Field had) = (key, Field field had) ∷ []
field_changed key field change.Hash = (key, Whole None) ∷ []
