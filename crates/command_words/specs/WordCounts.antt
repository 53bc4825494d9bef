-- The words after a name, by how many the command takes.
use Rattle.std.specs.Prelude.{ℕ, ◌%◌, ◌==◌, ◌&&◌, nat_lt, length, if◌then◌else◌}
use Rattle.std.specs.Prelude.{List, [], ◌∷◌, Option, Some, None, Ok, Err, ℤ}
use Rattle.command_words.specs.declared.command.WordFault.TheVariants.{Arity, BadNumber}
use Rattle.command_words.specs.Reading.{Read, read_as}
use Rattle.command_words.specs.Integers.{integer_of}

abbrev pub no_word : List (List ℕ) → Read (Unit {0})
no_word [] = Ok tt
no_word _ = Err Arity

abbrev pub one : List (List ℕ) → Read (List ℕ)
one (a ∷ []) = Ok a
one _ = Err Arity

abbrev pub two : List (List ℕ) → Read (List ℕ × List ℕ)
two (a ∷ b ∷ []) = Ok (a, b)
two _ = Err Arity

abbrev pub at_most_one : List (List ℕ) → Read (Option (List ℕ))
at_most_one [] = Ok None
at_most_one (a ∷ []) = Ok (Some a)
at_most_one _ = Err Arity

abbrev pub at_least_one : List (List ℕ) → Read (List (List ℕ))
at_least_one [] = Err Arity
at_least_one (a ∷ words) = Ok (a ∷ words)

-- a first word, and at least one after it
abbrev pub one_and_more : List (List ℕ) → Read (List ℕ × List (List ℕ))
one_and_more (a ∷ b ∷ words) = Ok (a, b ∷ words)
one_and_more _ = Err Arity

-- words two by two, at least one pair
abbrev pub in_pairs : List (List ℕ) → Read (List (List ℕ))
in_pairs words = if nat_lt 0 (length words) && length words % 2 == 0 then Ok words else Err Arity

-- a first word, and at least one pair after it
abbrev pub one_and_pairs : List (List ℕ) → Read (List ℕ × List (List ℕ))
one_and_pairs [] = Err Arity
one_and_pairs (a ∷ words) = read_as (λ ws. (a, ws)) (in_pairs words)

abbrev pub number_or_fault : Option ℤ → Read ℤ
number_or_fault None = Err BadNumber
number_or_fault (Some n) = Ok n

abbrev pub number : List ℕ → Read ℤ
number word = number_or_fault (integer_of word)

-- a word and a number
abbrev pub one_and_number : List (List ℕ) → Read (List ℕ × ℤ)
one_and_number (a ∷ n ∷ []) = read_as (λ i. (a, i)) (number n)
one_and_number _ = Err Arity
