-- A list that is repeated.
use Rattle.std.proofs.Common.{◌≡◌, ℕ, zero, suc, ◌+◌, List, [], ◌++◌, refl, sym, ap, ◌∙◌}
use Rattle.std.proofs.Common.{arith, append-nil, append_assoc}
use Rattle.stream_bench.specs.Reading.{repeated}

module _ {A : Type 0} (xs : List A) where
  pub not_once : repeated 0 xs ≡ []
  unfolding repeated
  not_once = refl

  suc_more : (n : ℕ) → repeated (suc n) xs ≡ repeated n xs ++ xs
  unfolding repeated
  suc_more zero = append-nil xs
  suc_more (suc n) = ap (λ z. xs ++ z) (suc_more n) ∙ sym (append_assoc xs (repeated n xs) xs)

  pub once_more : (n : ℕ) → repeated (n + 1) xs ≡ repeated n xs ++ xs
  once_more n = let is : n + 1 ≡ suc n = omega arith in ap (λ m. repeated m xs) is ∙ suc_more n

  suc_both : (m n : ℕ) → repeated m xs ++ repeated n xs ≡ repeated (m + n) xs
  unfolding repeated
  suc_both zero n = let is : n ≡ 0 + n = omega arith in ap (λ k. repeated k xs) is
  suc_both (suc m) n =
      let is : suc (m + n) ≡ suc m + n = omega arith in
      append_assoc xs (repeated m xs) (repeated n xs) ∙ ap (λ z. xs ++ z) (suc_both m n)
      ∙ ap (λ k. repeated k xs) is

  pub both_times : (m n sum : ℕ) → m + n ≡ sum → repeated m xs ++ repeated n xs ≡ repeated sum xs
  both_times m n sum is = suc_both m n ∙ ap (λ k. repeated k xs) is

  pub one_longer : (n : ℕ) (old new : List A) → old ≡ repeated n xs → new ≡ old ++ xs
      → new ≡ repeated (n + 1) xs
  one_longer n old new is more = more ∙ ap (λ z. z ++ xs) is ∙ sym (once_more n)
