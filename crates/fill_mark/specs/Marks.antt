-- Lists of marks, the oldest first.
use Rattle.std.specs.Prelude.{◌≡◌, ◌==◌, ◌++◌, ℕ, List, [], ◌∷◌, true, not, Option, Some}
use Rattle.std.specs.Prelude.{None, if◌then◌else◌}
use Rattle.std.specs.List.{filter, slice_get}
use Rattle.std.specs.Str.{bytes_eq}
use Rattle.command_words.specs.Queries.{key_of, same_query}
use Rattle.fill_mark.specs.declared.marks.Mark.{Mark}

abbrev pub without_query : List (List ℕ) → List Mark → List Mark
without_query query = filter (λ m. not (same_query m.query query))

abbrev pub without_key : List ℕ → List Mark → List Mark
without_key key = filter (λ m. not (bytes_eq (key_of m.query) key))

abbrev pub without_number : ℕ → List Mark → List Mark
without_number number = filter (λ m. not (m.number == number))

abbrev pub with_mark : ℕ → List (List ℕ) → List Mark → List Mark
with_mark number query marks =
    without_query query marks ++ record { number = number; query = query } ∷ []

-- the query whose mark has that number
abbrev pub query_marked : ℕ → List Mark → Option (List (List ℕ))
query_marked number [] = None
query_marked number (m ∷ ms) = if m.number == number then Some m.query else query_marked number ms

-- the first mark of that number is at that place
pub record IsMarkAt (number : ℕ) (marks : List Mark) (place : ℕ) : Type 0 where
  pub mark : Mark
  pub at : slice_get marks place ≡ Some mark
  pub number_is : (mark.number == number) ≡ true
  pub query_is : query_marked number marks ≡ Some mark.query
