-- The names, words and numbers that stand in a line of a schedule.
use Rattle.std.specs.Prelude.{◌≡◌, ◌↔◌, true, ◌+◌, ◌-◌, ◌*◌, ◌&&◌, ◌||◌, ◌==◌, ℕ, List, []}
use Rattle.std.specs.Prelude.{◌∷◌, ◌++◌, Bool, if◌then◌else◌, nat_lt, nat_le, length, take, drop}
use Rattle.std.specs.Prelude.{codes}
use Rattle.std.specs.declared.option.Option.{Option}
use Rattle.std.specs.declared.option.Option.TheVariants.{None, Some}
use Rattle.std.specs.Fmt.{decimal}
use Rattle.std.specs.List.{list_all}
use Rattle.std.specs.Str.{bytes_eq}
use Rattle.std.specs.Str.Parse.{digits_value}
use Rattle.command_words.specs.Printed.{printed}

-- 0 to 9 and a to z
abbrev pub is_name_byte : ℕ → Bool
is_name_byte b = (nat_le 48 b && nat_le b 57) || (nat_le 97 b && nat_le b 122)

-- the name of a link has 1 to 16 characters
abbrev pub is_name : List ℕ → Bool
is_name text = nat_lt 0 (length text) && nat_le (length text) 16 && list_all is_name_byte text

-- a name, and then this ending
abbrev pub is_name_with : List ℕ → List ℕ → Bool
is_name_with ending text =
    bytes_eq (drop (length text - length ending) text) ending
    && is_name (take (length text - length ending) text)

-- the link of a connection has its name, those of a client its name and `.data` or `.inv`
abbrev pub is_link : List ℕ → Bool
is_link text =
    is_name text || is_name_with (codes ".data") text || is_name_with (codes ".inv") text

-- the digits 0 to 9 and a to f
abbrev pub hex_value : ℕ → ℕ
hex_value b =
    if nat_le 48 b && nat_le b 57 then b - 48 else
    if nat_le 97 b && nat_le b 102 then b - 87 else
    0

abbrev pub escaped : ℕ → List ℕ
escaped b =
    if b == 114 then 13 ∷ [] else
    if b == 110 then 10 ∷ [] else
    if b == 115 then 32 ∷ [] else
    if b == 92 then 92 ∷ [] else
    []

-- what the escapes of a text stand for, read without care: whether the text is a spelling is judged
-- below
abbrev mutual
  pub unescaped : List ℕ → List ℕ
  unescaped [] = []
  unescaped (b ∷ text) = if b == 92 then after_backslash text else b ∷ unescaped text

  pub after_backslash : List ℕ → List ℕ
  after_backslash [] = []
  after_backslash (b ∷ text) = if b == 120 then after_x text else escaped b ++ unescaped text

  pub after_x : List ℕ → List ℕ
  after_x [] = []
  after_x (high ∷ text) = after_digit text high

  pub after_digit : List ℕ → ℕ → List ℕ
  after_digit [] high = []
  after_digit (low ∷ text) high = (16 * hex_value high + hex_value low) ∷ unescaped text

-- the word that a text spells: the one whose printed form it is
unfoldable pub word_of : List ℕ → Option (List ℕ)
word_of text = if bytes_eq (printed (unescaped text)) text then Some (unescaped text) else None

abbrev pub first_and_rest : Option (List ℕ) → Option (List (List ℕ)) → Option (List (List ℕ))
first_and_rest (Some word) (Some words) = Some (word ∷ words)
first_and_rest (Some word) None = None
first_and_rest None _ = None

-- the words that the texts spell, where each spells one
abbrev pub words_of : List (List ℕ) → Option (List (List ℕ))
words_of [] = Some []
words_of (text ∷ texts) = first_and_rest (word_of text) (words_of texts)

abbrev pub is_within : ℕ → ℕ → ℕ → Bool
is_within low high number = nat_le low number && nat_le number high

-- the number from low to high that a text spells: the one whose decimal form it is
unfoldable pub number_within : ℕ → ℕ → List ℕ → Option ℕ
number_within low high text =
    let number = digits_value 10 text in
    if is_within low high number && bytes_eq (decimal number) text then Some number
    else None

-- numbers have up to 64 bits
abbrev pub greatest : ℕ
greatest = 18446744073709551615

abbrev pub is_byte : ℕ → Bool
is_byte b = nat_lt b 256

-- a text is read as a word exactly where it is that word's printed form: so each word comes back,
-- and has one spelling
abbrev pub WordsComeBack : Type 0
WordsComeBack = (word text : List ℕ) → list_all is_byte word ≡ true
    → (word_of text ≡ Some word) ↔ (printed word ≡ text)
