-- What is found where a number is added to the string of a key.
use Rattle.std.specs.Prelude.{◌≡◌, ℕ, ℤ, List, [], ◌∷◌, Option, Some, None}
use Rattle.std.specs.Fmt.{signed_decimal}
use Rattle.std.specs.Option.{option_map}
use Rattle.resp_value.specs.declared.value.Value.TheVariants.{Number}
use Rattle.command_words.specs.Space.{Text, Fields, Held, Space, held_at}
use Rattle.command_words.specs.Effect.{Effect, number_in, replied, wrote, wrong_type, not_integer}
use Rattle.command_words.specs.Effect.{overflow}
use Rattle.command_rows.specs.declared.integers.Addition as addition
use Rattle.command_rows.specs.Additions.{IsAddition}
use Rattle.keyspace.specs.Plain.{held_of}
use Rattle.string_cmds.specs.declared.numbers.Counted as code
use Rattle.string_cmds.specs.declared.numbers.Counted.TheVariants.{Sum, NoInteger, Overflow}
use Rattle.string_cmds.specs.declared.numbers.Counted.TheVariants.{WrongType}

-- the row of what was found, which leaves this keyspace
abbrev pub counted_row : List ℕ → code.Counted → Space → Effect
counted_row key (Sum sum had) space = wrote (Number sum) (key ∷ []) space
counted_row key NoInteger space = replied not_integer space
counted_row key Overflow space = replied overflow space
counted_row key WrongType space = replied wrong_type space

-- what the key held, where a sum was written; nothing else is
abbrev pub IsHad : List ℕ → code.Counted → Space → Space → Type 0
IsHad key (Sum sum had) old new = held_at key old ≡ option_map held_of had
IsHad key NoInteger old new = new ≡ old
IsHad key Overflow old new = new ≡ old
IsHad key WrongType old new = new ≡ old

-- of a key that is there: the sum stands in the place of the digits, and the deadline stays
abbrev pub IsCounted : ℤ → code.Counted → Held → Held → Type 0
IsCounted n (Sum sum had) old new =
    (v : List ℕ) × (old.content ≡ Text v)
    × IsAddition (number_in (Some v)) n (addition.TheVariants.Sum sum)
    × (new ≡ record { content = Text (signed_decimal sum); deadline = old.deadline })
    × (option_map held_of had ≡ Some old)
IsCounted n NoInteger old new =
    (v : List ℕ) × (old.content ≡ Text v)
    × IsAddition (number_in (Some v)) n addition.TheVariants.NoInteger × (new ≡ old)
IsCounted n Overflow old new =
    (v : List ℕ) × (old.content ≡ Text v)
    × IsAddition (number_in (Some v)) n addition.TheVariants.Overflow × (new ≡ old)
IsCounted n WrongType old new =
    (fs : List (List ℕ × List ℕ)) × (old.content ≡ Fields fs) × (new ≡ old)

-- what the key held, where it changed
abbrev pub IsKept : List ℕ → Option (Option Held) → Space → Space → Type 0
IsKept key None old new = new ≡ old
IsKept key (Some had) old new = held_at key old ≡ had
