-- What holds of each of several things holds of each of some of them, and of others like them.
use Rattle.std.proofs.Common.{◌≡◌, ◌<◌, ℕ, zero, suc, List, [], ◌∷◌, ◌++◌, Bool, true, cond, arith}
use Rattle.std.proofs.Common.{ap, ◌∙◌, refl, length, take, drop, slice_index_or}
use Rattle.std.specs.Prelude.{filter}
use Rattle.serial_model.specs.Each.{AllIn}

module _ {A : Type 0} {P Q : A → Type 0} (f : (x : A) → P x → Q x) where
  pub all_in : (xs : List A) → AllIn P xs → AllIn Q xs
  all_in [] a = tt
  all_in (x ∷ xs) a = (f x a.0, all_in xs a.1)

module _ {A : Type 0} (P : A → Type 0) where
  pub in_if : (b : Bool) (xs ys : List A) → AllIn P xs → AllIn P ys → AllIn P (cond b xs ys)
  in_if e xs ys a b = grind arith

  pub in_append : (xs ys : List A) → AllIn P xs → AllIn P ys → AllIn P (xs ++ ys)
  in_append [] ys a b = b
  in_append (x ∷ xs) ys a b = (a.0, in_append xs ys a.1 b)

  pub in_filter : (p : A → Bool) (xs : List A) → AllIn P xs → AllIn P (filter p xs)
  in_filter p [] a = tt
  in_filter p (x ∷ xs) a = grind (arith, in_if, in_filter p xs a.1)

  pub in_take : (n : ℕ) (xs : List A) → AllIn P xs → AllIn P (take n xs)
  in_take zero xs a = tt
  in_take (suc n) [] a = tt
  in_take (suc n) (x ∷ xs) a = (a.0, in_take n xs a.1)

  pub in_drop : (n : ℕ) (xs : List A) → AllIn P xs → AllIn P (drop n xs)
  in_drop zero xs a = a
  in_drop (suc n) [] a = tt
  in_drop (suc n) (x ∷ xs) a = in_drop n xs a.1

  pub in_at : (xs : List A) (n : ℕ) (d : A) → AllIn P xs → n < length xs
      → P (slice_index_or xs n d)
  in_at [] n d a lt = absurd (omega arith)
  in_at (x ∷ xs) zero d a lt = a.0
  in_at (x ∷ xs) (suc n) d a lt = in_at xs n d a.1 (omega arith)

pub all_kept : {A : Type 0} (p : A → Bool) (xs : List A) → AllIn (λ x. p x ≡ true) xs
    → filter p xs ≡ xs
all_kept p [] a = refl
all_kept p (x ∷ xs) a =
    ap (λ b. cond b (x ∷ filter p xs) (filter p xs)) a.0 ∙ ap (λ ys. x ∷ ys) (all_kept p xs a.1)
