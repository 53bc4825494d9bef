-- Integers as words: a minus or none, then 0 or digits that begin with 1 to 9, within 64 bits
-- with a sign; no minus before 0.
use Rattle.std.specs.Prelude.{ℕ, ◌+◌, ◌-◌, ◌*◌, ◌^◌, List, [], ◌∷◌, Bool, false, ◌&&◌, ◌==◌, codes}
use Rattle.std.specs.Prelude.{nat_lt, nat_le, if◌then◌else◌, Option, Some, None, ℤ, pos, negsuc}
use Rattle.std.specs.Prelude.{neg_ℤ}
use Rattle.std.specs.Char.{is_ascii_digit}
use Rattle.std.specs.List.{list_all}
use Rattle.std.specs.Option.{option_map}
use Rattle.std.specs.Str.{bytes_eq}

-- the number that digits spell after those that spell n
abbrev pub value_of : ℕ → List ℕ → ℕ
value_of n [] = n
value_of n (d ∷ ds) = value_of (n * 10 + (d - 48)) ds

-- digits that begin with 1 to 9
abbrev pub is_positive_word : List ℕ → Bool
is_positive_word [] = false
is_positive_word (d ∷ ds) = nat_le 49 d && list_all is_ascii_digit (d ∷ ds)

-- the positive number that digits spell, at most the limit
abbrev pub positive_of : ℕ → List ℕ → Option ℕ
positive_of limit ds =
    if is_positive_word ds && nat_le (value_of 0 ds) limit then Some (value_of 0 ds) else None

-- the number that a word spells
unfoldable pub integer_of : List ℕ → Option ℤ
integer_of [] = None
integer_of (c ∷ cs) =
    if c == 45 then option_map (λ n. neg_ℤ (pos n)) (positive_of 9223372036854775808 cs) else
    if bytes_eq (c ∷ cs) (codes "0") then Some (pos 0) else
    option_map pos (positive_of 9223372036854775807 (c ∷ cs))

-- within 64 bits with a sign
abbrev pub fits_64 : ℤ → Bool
fits_64 (pos n) = nat_lt n (2 ^ 63)
fits_64 (negsuc n) = nat_lt n (2 ^ 63)
