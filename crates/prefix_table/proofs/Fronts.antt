-- The bytes that lists have in common, and their order.
use Rattle.std.proofs.Common.{◌≡◌, ◌<◌, ◌≤◌, ℕ, List, [], ◌∷◌, true, false, length}
use Rattle.std.proofs.Common.{take, refl, arith}
use Rattle.std.specs.Prelude.{nat_eq}
use Rattle.std.specs.List.{starts_with}
use Rattle.std.specs.Ordering.{is_lt}
use Rattle.std.specs.declared.cmp.Ordering.TheVariants.{Less}
use Rattle.std.proofs.lemmas.Bool.Decides.{nat_tests}
use Prim.Native.Nat.{zero, suc}
use Rattle.prefix_table.specs.Table.{byte_order}
use Rattle.prefix_table.specs.Fronts.{common}

-- a key starts with a prefix that has all its bytes in common with it
abbrev pub IsFrontOf : List ℕ → List ℕ → Type 0
IsFrontOf q key = common q key ≡ length q

pub common_none : (xs : List ℕ) → common xs [] ≡ 0
common_none [] = refl
common_none (x ∷ xs) = refl

pub common_left : (xs ys : List ℕ) → common xs ys ≤ length xs
common_left [] ys = omega arith
common_left (x ∷ xs) [] = omega arith
common_left (x ∷ xs) (y ∷ ys) = grind (arith, common_left xs ys)

pub common_right : (xs ys : List ℕ) → common xs ys ≤ length ys
common_right [] ys = omega arith
common_right (x ∷ xs) [] = omega arith
common_right (x ∷ xs) (y ∷ ys) = grind (arith, common_right xs ys)

pub starts_common : (q key : List ℕ) → starts_with nat_eq key q ≡ true → IsFrontOf q key
starts_common [] key e = refl
starts_common (x ∷ xs) [] e = absurd cc
starts_common (x ∷ xs) (k ∷ ks) e = grind (arith, nat_tests, starts_common xs ks)

pub common_starts : (q key : List ℕ) → IsFrontOf q key → starts_with nat_eq key q ≡ true
common_starts [] key e = refl
common_starts (x ∷ xs) [] e = absurd (omega (arith, e))
common_starts (x ∷ xs) (k ∷ ks) e = grind (arith, nat_tests, common_starts xs ks)

-- a front of the key is before a longer one, and not before one that is not longer
pub before_longer : (q key : List ℕ) (n : ℕ) → IsFrontOf q key → length q < n → n ≤ length key
    → byte_order q (take n key) ≡ Less
before_longer q key zero is lt le = absurd (omega arith)
before_longer [] [] (suc n) is lt le = absurd (omega arith)
before_longer [] (k ∷ ks) (suc n) is lt le = refl
before_longer (x ∷ xs) [] (suc n) is lt le = absurd (omega (arith, is))
before_longer (x ∷ xs) (k ∷ ks) (suc n) is lt le =
    grind (arith, nat_tests, before_longer xs ks n)

pub not_before_shorter : (q key : List ℕ) (n : ℕ) → IsFrontOf q key → n ≤ length q
    → is_lt (byte_order q (take n key)) ≡ false
not_before_shorter [] key zero is le = refl
not_before_shorter (x ∷ xs) key zero is le = refl
not_before_shorter [] key (suc n) is le = absurd (omega arith)
not_before_shorter (x ∷ xs) [] (suc n) is le = absurd (omega (arith, is))
not_before_shorter (x ∷ xs) (k ∷ ks) (suc n) is le =
    grind (arith, nat_tests, not_before_shorter xs ks n)

-- what is from a front of the key on, and before a longer front, has it in common with the key
pub between : (r q key : List ℕ) (n : ℕ) → is_lt (byte_order r (take n key)) ≡ false
    → byte_order r q ≡ Less → IsFrontOf q key → n ≤ length q → n ≤ common r key
between r q key zero from before is le = omega arith
between r [] key (suc n) from before is le = absurd (omega arith)
between r (x ∷ xs) [] (suc n) from before is le = absurd (omega (arith, is))
between [] (x ∷ xs) (k ∷ ks) (suc n) from before is le = absurd cc
between (e ∷ es) (x ∷ xs) (k ∷ ks) (suc n) from before is le =
    grind (arith, nat_tests, between es xs ks n)

-- what has a front of the key in common with it is not before that front
pub not_before_common : (r q key : List ℕ) → length q ≤ common r key → IsFrontOf q key
    → byte_order r q ≡ Less → ⊥
not_before_common [] [] key le is before = absurd cc
not_before_common (e ∷ es) [] key le is before = absurd cc
not_before_common r (x ∷ xs) [] le is before = absurd (omega (arith, is))
not_before_common [] (x ∷ xs) (k ∷ ks) le is before = absurd (omega arith)
not_before_common (e ∷ es) (x ∷ xs) (k ∷ ks) le is before =
    grind (arith, nat_tests, not_before_common es xs ks)
