-- What a command that takes a key out hands on of it.
use Rattle.std.specs.Prelude.{◌≡◌, ℕ, List, Option, Some, None}
use Rattle.std.specs.FinMap.{remove}
use Rattle.command_words.specs.Space.{Held, Space, held_at}

-- what the key held, which went; nothing where the keyspace stays
abbrev pub IsTaken : List ℕ → Option Held → Space → Space → Type 0
IsTaken key None old new = new ≡ old
IsTaken key (Some held) old new = (held_at key old ≡ Some held) × (new ≡ remove old key)
