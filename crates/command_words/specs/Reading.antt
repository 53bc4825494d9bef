-- What reading words gives: what they are, or the first fault in them.
use Rattle.std.specs.Prelude.{◌≡◌, Result, Ok, Err}
use Rattle.command_words.specs.declared.command.WordFault.{WordFault}
use Rattle.command_words.specs.declared.command.WordFault.TheVariants.{Unknown, Arity, Syntax}
use Rattle.command_words.specs.declared.command.WordFault.TheVariants.{BadNumber, BadExpire}
use Rattle.command_words.specs.declared.command.WordFault.TheVariants.{NoMemory}

abbrev pub Read : Type 0 → Type 0
Read A = Result A WordFault

abbrev pub read_as : {A B : Type 0} → (A → B) → Read A → Read B
read_as f (Ok a) = Ok (f a)
read_as f (Err fault) = Err fault

abbrev pub read_then : {A B : Type 0} → Read A → (A → Read B) → Read B
read_then (Ok a) f = f a
read_then (Err fault) f = Err fault

-- what was answered is the reading, unless memory ran out
abbrev pub IsReading : {A : Type 0} → Read A → Read A → Type 0
IsReading (Ok a) read = read ≡ Ok a
IsReading (Err NoMemory) read = Unit {0}
IsReading (Err Unknown) read = read ≡ Err Unknown
IsReading (Err Arity) read = read ≡ Err Arity
IsReading (Err Syntax) read = read ≡ Err Syntax
IsReading (Err BadNumber) read = read ≡ Err BadNumber
IsReading (Err BadExpire) read = read ≡ Err BadExpire
