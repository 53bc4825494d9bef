-- What a command does, and how its row is put: what it replies, what it writes, whom it signals.
use Rattle.std.specs.Prelude.{ℕ, List, [], Option, Some, None, ℤ, pos, Result}
use Rattle.std.specs.Prelude.{Ok, Err}
use Rattle.std.specs.Prelude.{◌+ℤ◌, codes, if◌then◌else◌}
use Rattle.resp_value.specs.declared.value.Value.{Value}
use Rattle.resp_value.specs.declared.value.Value.TheVariants.{Error, Blob, Null}
use Rattle.command_words.specs.declared.command.Signalled.{Signalled}
use Rattle.command_words.specs.declared.command.Signalled.TheVariants.{Keys}
use Rattle.command_words.specs.Space.{Space}
use Rattle.command_words.specs.Integers.{integer_of, fits_64}

-- the new keyspace, the reply, and the keys that changed, in order, each once
pub record Effect : Type 0 where
  pub space : Space
  pub reply : Value
  pub signalled : Signalled

-- a reply, and nothing changes
abbrev pub replied : Value → Space → Effect
replied reply space = record { space = space; reply = reply; signalled = Keys [] }

-- a reply, these keys, and the keyspace in which they are written
abbrev pub wrote : Value → List (List ℕ) → Space → Effect
wrote reply keys space = record { space = space; reply = reply; signalled = Keys keys }

abbrev pub blob_or_null : Option (List ℕ) → Value
blob_or_null None = Null
blob_or_null (Some bytes) = Blob bytes

abbrev pub wrong_type : Value
wrong_type = Error (codes "WRONGTYPE Operation against a key holding the wrong kind of value")

abbrev pub not_integer : Value
not_integer = Error (codes "ERR value is not an integer or out of range")

abbrev pub hash_not_integer : Value
hash_not_integer = Error (codes "ERR hash value is not an integer")

abbrev pub overflow : Value
overflow = Error (codes "ERR increment or decrement would overflow")

abbrev pub too_long : Value
too_long = Error (codes "ERR string exceeds maximum allowed size")

abbrev pub no_such_key : Value
no_such_key = Error (codes "ERR no such key")

-- the number that a value spells; a missing one is 0
abbrev pub number_in : Option (List ℕ) → Option ℤ
number_in None = Some (pos 0)
number_in (Some bytes) = integer_of bytes

-- the sum, or the error where the value spells no number or the sum leaves 64 bits
abbrev pub sum_in : Value → Option ℤ → ℤ → Result ℤ Value
sum_in no_number None n = Err no_number
sum_in no_number (Some i) n = if fits_64 (i +ℤ n) then Ok (i +ℤ n) else Err overflow
