-- Digits that spell a number past a limit.
use Rattle.std.proofs.Common.{◌≡◌, ◌+◌, ◌-◌, ◌*◌, ◌<◌, ◌≤◌, ℕ, List, [], ◌∷◌, length, false, arith}
use Rattle.std.specs.Prelude.{nat_le}
use Rattle.std.proofs.lemmas.Bool.{lt-leb}
use Rattle.command_words.specs.Integers.{value_of}

grows : (n : ℕ) (ds : List ℕ) → n ≤ value_of n ds
grows n [] = omega arith
grows n (d ∷ ds) = omega (arith, grows (n * 10 + (d - 48)) ds)

pub too_large : (n limit : ℕ) (ds : List ℕ) → 0 < length ds → 922337203685477580 < n →
    limit ≤ 9223372036854775808 → nat_le (value_of n ds) limit ≡ false
too_large n limit [] some past within = absurd (omega arith)
too_large n limit (d ∷ ds) some past within = grind (arith, lt-leb, grows)
