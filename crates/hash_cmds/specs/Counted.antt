-- What is found where a number is added to the field of a key.
use Rattle.std.specs.Prelude.{◌≡◌, ℕ, ℤ, List, [], ◌∷◌, Some, None}
use Rattle.std.specs.FinMap.{insert}
use Rattle.std.specs.Fmt.{signed_decimal}
use Rattle.resp_value.specs.declared.value.Value.TheVariants.{Number}
use Rattle.command_words.specs.Space.{Content, Text, Fields, Space, content_at, held_at}
use Rattle.command_words.specs.Effect.{Effect, number_in, replied, wrote, wrong_type}
use Rattle.command_words.specs.Effect.{hash_not_integer, overflow}
use Rattle.command_words.specs.Hashes.{Pairs, field_get, field_set}
use Rattle.command_rows.specs.declared.integers.Addition.TheVariants as addition
use Rattle.command_rows.specs.Additions.{IsAddition}
use Rattle.hash_cmds.specs.declared.numbers.Counted as code
use Rattle.hash_cmds.specs.declared.numbers.Counted.TheVariants.{Sum, NoInteger, Overflow}
use Rattle.hash_cmds.specs.declared.numbers.Counted.TheVariants.{WrongType}
use Rattle.hash_cmds.specs.declared.numbers.FieldChange as change
use Rattle.hash_cmds.specs.declared.numbers.FieldChange.TheVariants.{Nothing, Field, Hash}

-- the row of what was found, which leaves this keyspace
abbrev pub counted_row : List ℕ → code.Counted → Space → Effect
counted_row key (Sum sum had) space = wrote (Number sum) (key ∷ []) space
counted_row key NoInteger space = replied hash_not_integer space
counted_row key Overflow space = replied overflow space
counted_row key WrongType space = replied wrong_type space

-- a key that was missing holds this hash
abbrev pub with_new_hash : List ℕ → Pairs → Space → Space
with_new_hash key fs space = insert space key (record { content = Fields fs; deadline = None })

-- what there was before the change
abbrev pub IsChange : List ℕ → List ℕ → change.FieldChange → Space → Space → Type 0
IsChange key field Nothing old new = new ≡ old
IsChange key field (Field had) old new =
    (fs : Pairs) × (content_at key old ≡ Some (Fields fs)) × (had ≡ field_get field fs)
IsChange key field Hash old new = held_at key old ≡ None

abbrev pub IsHad : List ℕ → List ℕ → code.Counted → Space → Space → Type 0
IsHad key field (Sum sum had) old new = IsChange key field had old new
IsHad key field NoInteger old new = new ≡ old
IsHad key field Overflow old new = new ≡ old
IsHad key field WrongType old new = new ≡ old

-- of fields that are there: the sum stands in the place of the digits
abbrev pub IsCounted : List ℕ → ℤ → code.Counted → Pairs → Pairs → Type 0
IsCounted field n (Sum sum had) old new =
    IsAddition (number_in (field_get field old)) n (addition.Sum sum)
    × (new ≡ field_set field (signed_decimal sum) old) × (had ≡ Field (field_get field old))
IsCounted field n NoInteger old new =
    IsAddition (number_in (field_get field old)) n addition.NoInteger × (new ≡ old)
IsCounted field n Overflow old new =
    IsAddition (number_in (field_get field old)) n addition.Overflow × (new ≡ old)
IsCounted field n WrongType old new = ⊥

-- of a key that is there
abbrev pub IsCountedIn : List ℕ → ℤ → code.Counted → Content → Content → Type 0
IsCountedIn field n WrongType old new = (v : List ℕ) × (old ≡ Text v) × (new ≡ old)
IsCountedIn field n (Sum sum had) old new =
    (fs gs : Pairs) × (old ≡ Fields fs) × (new ≡ Fields gs)
    × IsCounted field n (Sum sum had) fs gs
IsCountedIn field n NoInteger old new =
    (fs gs : Pairs) × (old ≡ Fields fs) × (new ≡ Fields gs) × IsCounted field n NoInteger fs gs
IsCountedIn field n Overflow old new =
    (fs gs : Pairs) × (old ≡ Fields fs) × (new ≡ Fields gs) × IsCounted field n Overflow fs gs
