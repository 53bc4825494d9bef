-- Names of commands and of options, which are read without regard to the case of ASCII letters.
use Rattle.std.specs.Prelude.{ℕ, List, Bool}
use Rattle.std.specs.Str.{bytes_eq, str_to_ascii_lowercase}

-- the word is the name, which is in lower case
abbrev pub is_name : List ℕ → List ℕ → Bool
is_name name word = bytes_eq (str_to_ascii_lowercase word) name
