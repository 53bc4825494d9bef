-- Marks found by their numbers and their keys.
use Rattle.std.specs.Prelude.{◌≡◌, ◌==◌, ◌⊎◌, ℕ, List, [], ◌∷◌, Bool, true, false, Option, Some}
use Rattle.std.specs.Prelude.{None, if◌then◌else◌, is_some, unwrap_or}
use Rattle.std.specs.List.{filter, list_any}
use Rattle.std.specs.Ordering.{nat_cmp}
use Rattle.std.specs.Cmp.Lexicographic.{slice_cmp}
use Rattle.std.specs.FinMap.{FinMap, get}
use Rattle.std.specs.Str.{bytes_eq}
use Rattle.command_words.specs.Queries.{key_of, same_query}
use Rattle.fill_mark.specs.declared.marks.Mark.{Mark}
use Rattle.fill_mark.specs.Marks.{query_marked, without_number}

abbrev pub Among : Mark → List Mark → Type 0
Among m [] = ⊥
Among m (o ∷ os) = (m ≡ o) ⊎ Among m os

-- the mark that a number and a query are
abbrev pub mark_of : ℕ × List (List ℕ) → Mark
mark_of p = record { number = p.0; query = p.1 }

-- numbers by key
abbrev pub KeyIndex : Type 0
KeyIndex = FinMap (slice_cmp nat_cmp) (List ℕ)

abbrev pub numbers_at : List ℕ → KeyIndex → List ℕ
numbers_at key keys = unwrap_or (get keys key) []

abbrev pub is_marked : List Mark → ℕ → Bool
is_marked marks n = is_some (query_marked n marks)

abbrev pub marked_among : List Mark → List ℕ → List ℕ
marked_among marks = filter (is_marked marks)

abbrev pub asks : List (List ℕ) → Option (List (List ℕ)) → Bool
asks query None = false
asks query (Some marked) = same_query marked query

abbrev pub asks_of : List ℕ → Option (List (List ℕ)) → Bool
asks_of key None = false
asks_of key (Some marked) = bytes_eq (key_of marked) key

-- the first of the numbers whose mark is of that query
abbrev pub number_of : List (List ℕ) → List Mark → List ℕ → Option ℕ
number_of query marks [] = None
number_of query marks (n ∷ ns) =
    if asks query (query_marked n marks) then Some n else number_of query marks ns

abbrev pub without_some : Option ℕ → List Mark → List Mark
without_some None marks = marks
without_some (Some n) marks = without_number n marks

-- the marks of a key whose numbers are listed go, one after the other
abbrev pub without_listed : List ℕ → List ℕ → List Mark → List Mark
without_listed key [] marks = marks
without_listed key (n ∷ ns) marks =
    without_listed key ns
    (if asks_of key (query_marked n marks) then without_number n marks else marks)

-- each mark is found by its number, which is among those of its key; no query has two numbers
pub record AreIndexed (keys : KeyIndex) (marks : List Mark) : Type 0 where
  pub found : (m : Mark) → Among m marks → query_marked m.number marks ≡ Some m.query
  pub listed : (m : Mark) → Among m marks
      → list_any (λ n. n == m.number) (numbers_at (key_of m.query) keys) ≡ true
  pub apart : (m o : Mark) → Among m marks → Among o marks
      → same_query m.query o.query ≡ true → m.number ≡ o.number
