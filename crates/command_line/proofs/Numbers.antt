-- A number is the one whose decimal form a text is.
use Rattle.std.proofs.Common.{◌≡◌, ◌<◌, ◌^◌, ◌&&◌, ℕ, List, Bool, true, cond, arith}
use Rattle.std.specs.declared.option.Option.TheVariants.{None, Some}
use Rattle.std.specs.Fmt.{decimal}
use Rattle.std.proofs.lemmas.Bool.{ltb-true}
use Rattle.std.proofs.lemmas.Slice.Eq.{bytes_eq-Decides}
use Rattle.command_line.specs.Options.{number_of}

both_true : (a b : Bool) → (a && b) ≡ true → (a ≡ true) × (b ≡ true)
both_true a b h = grind arith

none_unless : (b : Bool) (n : ℕ) → (b ≡ true → ⊥) → cond b (Some n) None ≡ None
none_unless b n h = grind arith

pub number_of-none : (text : List ℕ) → ((n : ℕ) → n < 2 ^ 64 → decimal n ≡ text → ⊥)
    → number_of text ≡ None
unfolding number_of
number_of-none text h = grind (arith, none_unless, both_true, ltb-true, bytes_eq-Decides)
