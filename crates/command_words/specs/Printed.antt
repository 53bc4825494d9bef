-- The printed form of a word in schedules and transcripts: one spelling for each byte string, of
-- visible bytes alone.
use Rattle.std.specs.Prelude.{◌+◌, ◌&&◌, ◌==◌, ℕ, List, [], ◌∷◌, Bool, if◌then◌else◌, nat_lt}
use Rattle.std.specs.Prelude.{nat_le, codes}
use Rattle.std.specs.List.{flat_map}
use Rattle.std.specs.Prelude.{◌/◌, ◌%◌}

-- the bytes 0x21 to 0x7E
abbrev pub is_visible : ℕ → Bool
is_visible b = nat_le 33 b && nat_le b 126

abbrev pub hex_digit : ℕ → ℕ
hex_digit n = if nat_lt n 10 then 48 + n else 87 + n

-- CR, LF, space and the backslash have a letter, every other byte that is not visible its number
abbrev pub printed_byte : ℕ → List ℕ
printed_byte b =
    if b == 13 then codes "\\r" else
    if b == 10 then codes "\\n" else
    if b == 32 then codes "\\s" else
    if b == 92 then codes "\\\\" else
    if is_visible b then b ∷ [] else
    92 ∷ 120 ∷ hex_digit (b / 16) ∷ hex_digit (b % 16) ∷ []

unfoldable pub printed_bytes : List ℕ → List ℕ
printed_bytes bytes = flat_map printed_byte bytes

-- the empty word is a backslash and an e
abbrev pub printed : List ℕ → List ℕ
printed [] = codes "\\e"
printed (b ∷ bytes) = printed_bytes (b ∷ bytes)
