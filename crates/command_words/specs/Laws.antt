-- What a command signals and reads, against the keys that its words name.
use Rattle.std.specs.Prelude.{◌≡◌, ℕ, List, Bool, true}
use Rattle.std.specs.List.{list_any}
use Rattle.std.specs.Str.{bytes_eq}
use Rattle.command_words.specs.declared.command.Command.{Command}
use Rattle.command_words.specs.declared.command.Signalled.{Signalled}
use Rattle.command_words.specs.declared.command.Signalled.TheVariants.{Keys, All}
use Rattle.command_words.specs.Space.{Space, content_at}
use Rattle.command_words.specs.Effects.{effect, read_reply}
use Rattle.command_words.specs.Queries.{written, read, names}

abbrev pub signals : Signalled → List ℕ → Bool
signals (Keys keys) key = list_any (bytes_eq key) keys
signals All key = true

-- a key that a command signals is one that it writes
abbrev pub SignalsAreWritten : Type 0
SignalsAreWritten =
    (command : Command) (space : Space) (moment : ℕ) (key : List ℕ)
    → signals (effect command space moment).signalled key ≡ true
    → names (written command) key ≡ true

-- what a read replies depends on the contents of the keys that it reads alone
abbrev pub RepliesAreOfKeysRead : Type 0
RepliesAreOfKeysRead =
    (command : Command) (space other : Space)
    → ((key : List ℕ) → list_any (bytes_eq key) (read command) ≡ true
    → content_at key space ≡ content_at key other)
    → read_reply command space ≡ read_reply command other
