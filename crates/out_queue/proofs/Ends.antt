-- One segment fewer, at either end.
use Rattle.std.proofs.Common.{◌≡◌, ℕ, ◌+◌, ◌-◌, ◌≤◌, ◌<◌, List, [], ◌∷◌, ◌++◌, sym}
use Rattle.std.proofs.Common.{ap, ◌∙◌, length, take, drop, arith, length-append, append_assoc}
use Rattle.std.proofs.lemmas.List.{append-nil, take-append-le}
use Rattle.std.proofs.lemmas.List.Folds.{concat-append}
use Rattle.std.specs.List.{concat}
use Rattle.out_queue.proofs.Fronts.{drop_past, take_past}

pub last_apart : (xss : List (List ℕ)) (xs : List ℕ) → concat (xss ++ xs ∷ []) ≡ concat xss ++ xs
last_apart xss xs =
    concat-append xss (xs ∷ []) ∙ ap (λ r. concat xss ++ r) (append-nil xs)

-- the first segment is passed whole
pub first_passed : (left most n : ℕ) (old rest : List (List ℕ)) (xs all : List ℕ)
    → old ≡ xs ∷ rest → n ≡ length xs → n ≤ left → drop left (concat old) ≡ drop most all
    → left ≤ most → most - left + length (concat old) ≡ length all →
    (drop (left - n) (concat rest) ≡ drop most all) × (left - n ≤ most)
    × (most - (left - n) + length (concat rest) ≡ length all)
first_passed left most n old rest xs all e d h was le sum = (
  ap (λ k. drop (left - k) (concat rest)) d
      ∙ sym (drop_past left xs (concat rest) (omega (arith, d, h)))
      ∙ ap (λ r. drop left (concat r)) (sym e) ∙ was,
  omega (arith, le),
  omega (arith, d, h, le, sum, ap (λ r. length (concat r)) e, length-append xs (concat rest)),
)

-- the last segment is cut off whole
pub last_cut : (left count n : ℕ) (old rest : List (List ℕ)) (xs all : List ℕ)
    → old ≡ rest ++ xs ∷ [] → n ≡ length xs → n ≤ left
    → take (length (concat old) - left) (concat old) ≡ take (length all - count) all
    → left ≤ length (concat old) →
    (take (length (concat rest) - (left - n)) (concat rest) ≡ take (length all - count) all)
    × (left - n ≤ length (concat rest))
last_cut left count n old rest xs all e d h was le =
    let whole : concat old ≡ concat rest ++ xs = ap concat e ∙ last_apart rest xs in
    let long : length (concat old) ≡ length (concat rest) + length xs =
    ap length whole ∙ length-append (concat rest) xs in (
      sym (take-append-le (length (concat rest) - (left - n)) (concat rest) xs (omega arith))
          ∙ ap (λ r. take (length (concat rest) - (left - n)) r) (sym whole)
          ∙ ap (λ k. take k (concat old)) (omega (arith, long, d, h, le)) ∙ was,
      omega (arith, long, d, h, le),
    )

-- the last segment is cut
pub last_shortened : (left count n : ℕ) (old rest new : List (List ℕ)) (xs ys all : List ℕ)
    → old ≡ rest ++ xs ∷ [] → n ≡ length xs → left < n
    → take (length (concat old) - left) (concat old) ≡ take (length all - count) all
    → ys ≡ take (n - left) xs → new ≡ rest ++ ys ∷ [] → concat new ≡ take (length all - count) all
last_shortened left count n old rest new xs ys all e d h was f g =
    let whole : concat old ≡ concat rest ++ xs = ap concat e ∙ last_apart rest xs in
    let long : length (concat old) ≡ length (concat rest) + length xs =
    ap length whole ∙ length-append (concat rest) xs in
    ap concat g ∙ last_apart rest ys ∙ ap (λ r. concat rest ++ r) f
    ∙ ap (λ k. concat rest ++ take k xs) (omega (arith, long, d, h))
    ∙ sym (take_past (length (concat old) - left) (concat rest) xs (omega (arith, long, d, h)))
    ∙ ap (λ r. take (length (concat old) - left) r) (sym whole) ∙ was

-- two segments are added
pub two_added : (old o mid new : List (List ℕ)) (x y a b : List ℕ) → o ≡ old
    → mid ≡ o ++ x ∷ [] → new ≡ mid ++ y ∷ [] → x ≡ a → y ≡ b
    → concat new ≡ concat old ++ (a ++ b)
two_added old o mid new x y a b d e f g h =
    ap concat f ∙ last_apart mid y ∙ ap (λ r. r ++ y) (ap concat e ∙ last_apart o x)
    ∙ append_assoc (concat o) x y ∙ ap (λ r. concat r ++ (x ++ y)) d
    ∙ ap (λ r. concat old ++ (r ++ y)) g ∙ ap (λ r. concat old ++ (a ++ r)) h

-- what was in the queue, a head, a blob and its end: the queue and the blob's spelling
pub blob_added : (older bytes queue head blob before share after ends new : List ℕ)
    → older ++ bytes ≡ queue → new ≡ older ++ (before ++ share) → before ≡ bytes ++ head
    → share ≡ blob → after ≡ ends → new ++ after ≡ queue ++ (head ++ blob ++ ends)
blob_added older bytes queue head blob before share after ends new q n b s a =
    grind (arith, append_assoc)

pub blob_counted : (size old n m : ℕ) (new older before share : List ℕ)
    → new ≡ older ++ (before ++ share) → size ≡ old + n + m → old ≡ length older
    → n ≡ length before → m ≡ length share → size ≡ length new
blob_counted size old n m new older before share e s o b c =
    omega (
      arith,
      ap length e,
      length-append older (before ++ share),
      length-append before share,
      s,
      o,
      b,
      c,
    )

pub spelling_counted : (head blob x y : List ℕ) → x ≡ head → y ≡ blob
    → length x + length y + 2 ≡ length (head ++ blob ++ 13 ∷ 10 ∷ [])
spelling_counted head blob x y e d =
    omega (
      arith,
      ap length e,
      ap length d,
      length-append (head ++ blob) (13 ∷ 10 ∷ []),
      length-append head blob,
    )
