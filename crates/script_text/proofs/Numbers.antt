-- A number is the one whose decimal form a text is.
use Rattle.std.proofs.Common.{◌≡◌, ◌<◌, ◌≤◌, ◌^◌, ◌&&◌, ℕ, List, Bool, true, cond, sym, ap, ◌∙◌}
use Rattle.std.proofs.Common.{arith}
use Rattle.std.specs.declared.option.Option.TheVariants.{None, Some}
use Rattle.std.specs.Fmt.{decimal}
use Rattle.std.specs.Str.Parse.{digits_value}
use Rattle.std.proofs.lemmas.Bool.{leb-true}
use Rattle.std.proofs.lemmas.Fmt.{decimal_is_IsNumeral}
use Rattle.std.proofs.lemmas.Slice.Eq.{bytes_eq-Decides}
use Rattle.script_text.specs.Words.{is_within, number_within, greatest}

pub both_true : (a b : Bool) → (a && b) ≡ true → (a ≡ true) × (b ≡ true)
both_true a b h = grind arith

pub both : (a b : Bool) → a ≡ true → b ≡ true → (a && b) ≡ true
both a b h k = grind arith

none_unless : (b : Bool) (n : ℕ) → (b ≡ true → ⊥) → cond b (Some n) None ≡ None
none_unless b n h = grind arith

pub number_within-none : (low high : ℕ) (text : List ℕ)
    → ((n : ℕ) → is_within low high n ≡ true → decimal n ≡ text → ⊥)
    → number_within low high text ≡ None
unfolding number_within
number_within-none low high text h = grind (arith, none_unless, both_true, bytes_eq-Decides)

pub number_within-decimal : (low high n : ℕ) (text : List ℕ) → is_within low high n ≡ true
    → n < 2 ^ 64 → decimal n ≡ text → number_within low high text ≡ Some n
unfolding number_within
number_within-decimal low high n text within small e =
    let read : digits_value 10 text ≡ n = ap (digits_value 10) (sym e)
    ∙ (decimal_is_IsNumeral n small).1 in
    grind (arith, both, bytes_eq-Decides)

pub decimal-number_within : (low high n : ℕ) (text : List ℕ) → number_within low high text ≡ Some n
    → (is_within low high n ≡ true) × (decimal n ≡ text)
unfolding number_within
decimal-number_within low high n text h = grind (arith, both_true, bytes_eq-Decides)

-- what is not more than a number of 64 bits is one
pub small_within : (low high n : ℕ) → high ≤ greatest → is_within low high n ≡ true → n < 2 ^ 64
small_within low high n h within = grind (arith, leb-true, both_true)
