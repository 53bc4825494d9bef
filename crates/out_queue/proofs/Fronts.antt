-- The first bytes of lists that follow one another, and those behind them.
use Rattle.std.proofs.Common.{◌≡◌, ℕ, zero, suc, ◌+◌, ◌-◌, ◌≤◌, ◌<◌, List, [], ◌∷◌, ◌++◌, refl, sym}
use Rattle.std.proofs.Common.{ap, ◌∙◌, append_assoc, length, take, drop, get_or, arith}
use Rattle.std.proofs.lemmas.List.{take_more}
use Rattle.std.proofs.lemmas.List.{append-nil, length-take, length-drop}
use Rattle.std.proofs.lemmas.List.Folds.{concat-append}
use Rattle.std.specs.List.{concat}

module _ {A : Type 0} where
  -- what was taken before stays in front
  pub take_again : (n : ℕ) (xs ys : List A) → take n (take n xs ++ ys) ≡ take n (xs ++ ys)
  take_again zero [] ys = refl
  take_again zero (x ∷ xs) ys = refl
  take_again (suc n) [] ys = refl
  take_again (suc n) (x ∷ xs) ys = ap (λ (r : List A). x ∷ r) (take_again n xs ys)

  -- once that many were taken, what follows adds none
  pub taken_all : (n : ℕ) (xs ys : List A) → length (take n xs) ≡ n
      → take n xs ≡ take n (xs ++ ys)
  taken_all zero [] ys e = refl
  taken_all zero (x ∷ xs) ys e = refl
  taken_all (suc n) [] ys e = absurd (omega (arith, e))
  taken_all (suc n) (x ∷ xs) ys e =
      ap (λ (r : List A). x ∷ r) (taken_all n xs ys (omega (arith, e)))

  pub drop_past : (n : ℕ) (xs ys : List A) → length xs ≤ n
      → drop n (xs ++ ys) ≡ drop (n - length xs) ys
  drop_past n [] ys h = ap (λ k. drop k ys) (omega arith)
  drop_past zero (x ∷ xs) ys h = absurd (omega (arith, h))
  drop_past (suc n) (x ∷ xs) ys h = drop_past n xs ys (omega (arith, h))
      ∙ ap (λ k. drop k ys) (omega (arith, h))

  drop_same : (n k : ℕ) (xs ys : List A) → n ≡ k → xs ++ drop n ys ≡ xs ++ drop k ys
  drop_same n k xs ys e = ap (λ i. xs ++ drop i ys) e

  pub drop_both : (n : ℕ) (xs ys : List A)
      → drop n (xs ++ ys) ≡ drop n xs ++ drop (n - length xs) ys
  drop_both zero [] ys = refl
  drop_both (suc n) [] ys = drop_same (suc n) (suc n - 0) [] ys (omega arith)
  drop_both zero (x ∷ xs) ys =
      drop_same 0 (0 - length (x ∷ xs)) (x ∷ xs) ys (omega arith)
  drop_both (suc n) (x ∷ xs) ys = drop_both n xs ys
      ∙ drop_same (n - length xs) (suc n - length (x ∷ xs)) (drop n xs) ys (omega arith)

  pub take_past : (n : ℕ) (xs ys : List A) → length xs ≤ n
      → take n (xs ++ ys) ≡ xs ++ take (n - length xs) ys
  take_past n [] ys h = ap (λ k. take k ys) (omega arith)
  take_past zero (x ∷ xs) ys h = absurd (omega (arith, h))
  take_past (suc n) (x ∷ xs) ys h = ap (λ (r : List A). x ∷ r) (take_past n xs ys (omega (arith, h))
      ∙ ap (λ k. xs ++ take k ys) (omega (arith, h)))

pub within : (n : ℕ) (xs new : List ℕ) → new ≡ take n xs → length new ≤ n
within n xs new e = rw e (omega (arith, length-take n xs))

-- ---- one more segment is copied

pub concat_more : (xss : List (List ℕ)) (i : ℕ) (xs : List ℕ) → i < length xss
    → xs ≡ get_or xss i xs → concat (take (i + 1) xss) ≡ concat (take i xss) ++ xs
concat_more xss i xs h e =
    ap concat (take_more xss i xs h ∙ ap (λ r. take i xss ++ r ∷ []) (sym e))
    ∙ concat-append (take i xss) (xs ∷ []) ∙ ap (λ r. concat (take i xss) ++ r) (append-nil xs)

pub copied_more : (most : ℕ) (out : List ℕ) (xss : List (List ℕ)) (i : ℕ) (xs now new : List ℕ)
    → i < length xss → xs ≡ get_or xss i xs → now ≡ take most (out ++ concat (take i xss))
    → new ≡ take most (now ++ xs) → new ≡ take most (out ++ concat (take (i + 1) xss))
copied_more most out xss i xs now new h e was is =
    is ∙ ap (λ r. take most (r ++ xs)) was ∙ take_again most (out ++ concat (take i xss)) xs
    ∙ ap (take most) (append_assoc out (concat (take i xss)) xs
    ∙ ap (λ r. out ++ r) (sym (concat_more xss i xs h e)))

split_at : (xss : List (List ℕ)) (i : ℕ) → concat xss ≡ concat (take i xss) ++ concat (drop i xss)
split_at xss zero = refl
split_at [] (suc i) = refl
split_at (xs ∷ xss) (suc i) = ap (λ r. xs ++ r) (split_at xss i)
    ∙ sym (append_assoc xs (concat (take i xss)) (concat (drop i xss)))

pub copied_enough : (most : ℕ) (out : List ℕ) (xss : List (List ℕ)) (i : ℕ) (new : List ℕ)
    → new ≡ take most (out ++ concat (take i xss)) → length new ≡ most
    → new ≡ take most (out ++ concat xss)
copied_enough most out xss i new is n =
    is ∙ taken_all most (out ++ concat (take i xss)) (concat (drop i xss)) (ap length (sym is) ∙ n)
    ∙ ap (take most) (append_assoc out (concat (take i xss)) (concat (drop i xss))
    ∙ ap (λ r. out ++ r) (sym (split_at xss i)))

-- the parts of a queue, copied one after the other
pub copied_all : (most : ℕ) (out : List ℕ) (upper lower older : List (List ℕ))
    (bytes all first second third : List ℕ) → out ≡ [] → upper ++ lower ≡ older
    → concat older ++ bytes ≡ all → first ≡ take most (out ++ concat upper)
    → second ≡ take most (first ++ concat lower) → third ≡ take most (second ++ bytes)
    → third ≡ take most all
copied_all most out upper lower older bytes all first second third o p q f s t =
    let back : take most (concat upper ++ concat lower) ≡ second =
    sym (s ∙ ap (λ r. take most (r ++ concat lower)) (f
    ∙ ap (λ r. take most (r ++ concat upper)) o)
    ∙ take_again most (concat upper) (concat lower)) in
    t ∙ ap (λ r. take most (r ++ bytes)) (sym back)
    ∙ take_again most (concat upper ++ concat lower) bytes
    ∙ ap (λ r. take most (r ++ bytes)) (sym (concat-append upper lower) ∙ ap concat p)
    ∙ ap (take most) q

-- the parts of a queue, passed one after the other
pub passed_all : (most count : ℕ) (older bytes all new rest : List ℕ) → older ++ bytes ≡ all
    → new ≡ drop most older → count ≤ most → count + length new ≡ length older
    → rest ≡ drop (most - count) bytes → new ++ rest ≡ drop most all
passed_all most count older bytes all new rest q n le sum r =
    ap (λ z. z ++ rest) n ∙ ap (λ z. drop most older ++ z) r
    ∙ ap (λ k. drop most older ++ drop k bytes)
    (omega (arith, le, sum, ap length n, length-drop most older))
    ∙ sym (drop_both most older bytes) ∙ ap (drop most) q
