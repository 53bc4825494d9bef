-- How far lists of bytes agree, and the first prefix that does not come before some bytes.
use Rattle.std.specs.Prelude.{◌==◌, ◌≡◌, ◌<◌, ◌≤◌, ◌+◌, ◌&&◌, ℕ, List, [], ◌∷◌, Bool, false, length}
use Rattle.std.specs.Prelude.{if◌then◌else◌, nat_lt, filter}
use Rattle.std.specs.List.{range_with_len}
use Rattle.std.specs.Ordering.{is_lt}
use Rattle.prefix_table.specs.declared.table.Registration.{Registration}
use Rattle.prefix_table.specs.Table.{byte_order, prefix_at, starts_with_at}
use Rattle.prefix_table.specs.Places.{AllBefore}

-- how many bytes at the front are the same
abbrev pub common : List ℕ → List ℕ → ℕ
common [] ys = 0
common (x ∷ xs) [] = 0
common (x ∷ xs) (y ∷ ys) = if x == y then common xs ys + 1 else 0

abbrev pub IsFirstFrom : List ℕ → List Registration → ℕ → Type 0
IsFirstFrom prefix rs n =
    (n ≤ length rs) × AllBefore prefix rs n
    × (n < length rs → is_lt (byte_order (prefix_at rs n) prefix) ≡ false)

-- the places of the prefixes that the key starts with, and that are shorter than so many bytes
abbrev pub shorter_at : List ℕ → List Registration → ℕ → ℕ → Bool
shorter_at key rs n i = starts_with_at key rs i && nat_lt (length (prefix_at rs i)) n

abbrev pub shorter : List ℕ → List Registration → ℕ → List ℕ
shorter key rs n = filter (shorter_at key rs n) (range_with_len 0 (length rs))
