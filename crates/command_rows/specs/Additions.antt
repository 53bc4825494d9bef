-- What is found where a number is added to a value.
use Rattle.std.specs.Prelude.{◌≡◌, Option, Some, None, ℤ, ◌+ℤ◌, true, false}
use Rattle.command_words.specs.Integers.{fits_64}
use Rattle.command_rows.specs.declared.integers.Addition.{Addition}
use Rattle.command_rows.specs.declared.integers.Addition.TheVariants.{Sum, NoInteger, Overflow}

abbrev pub IsAddition : Option ℤ → ℤ → Addition → Type 0
IsAddition value n NoInteger = value ≡ None
IsAddition value n (Sum sum) =
    (i : ℤ) × (value ≡ Some i) × (fits_64 (i +ℤ n) ≡ true) × (sum ≡ i +ℤ n)
IsAddition value n Overflow = (i : ℤ) × (value ≡ Some i) × (fits_64 (i +ℤ n) ≡ false)
