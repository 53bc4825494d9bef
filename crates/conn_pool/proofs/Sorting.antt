-- Any reports can be put in order of their ids.
use Rattle.std.proofs.Common.{ℕ, zero, suc, ◌<◌, ◌≤◌, List, [], ◌∷◌, length, arith}
use Rattle.std.proofs.Common.{get_or, inl, inr}
use Rattle.std.specs.Prelude.{◌⊎◌}
use Rattle.std.specs.List.{insert}
use Rattle.std.specs.List.Sorted.{IsPermutation}
use Rattle.std.proofs.lemmas.List.Sorted.{IsPermutation-refl, IsPermutation-cons}
use Rattle.std.proofs.lemmas.List.Sorted.{IsPermutation-trans, IsPermutation-insert}
use Rattle.std.proofs.lemmas.List.Sorted.{IsNonDecreasingBy-insert, IsNonDecreasingBy-short}
use Rattle.conn_worker.specs.declared.report.Report.{Report}
use Rattle.conn_pool.specs.Orders.{AreInOrder}

abbrev id_of : Report → ℕ
id_of r = r.id

-- a place among them for a report of this id
abbrev Place : ℕ → List Report → Type 0
Place n rs = (i : ℕ) × (i ≤ length rs)
    × ((k : ℕ) (d : Report) → k < i → id_of (get_or rs k d) ≤ n)
    × ((k : ℕ) (d : Report) → i ≤ k → k < length rs → n ≤ id_of (get_or rs k d))

either : (m n : ℕ) → (m < n) ⊎ (n ≤ m)
either m zero = inr (omega arith)
either zero (suc n) = inl (omega arith)
either (suc m) (suc n) =
    elim (either m n) [
      | inl lt ↦ inl (omega (arith, lt))
      | inr le ↦ inr (omega (arith, le))
    ]

place_after : (n : ℕ) (r : Report) (rs : List Report) → r.id < n → Place n rs
    → Place n (r ∷ rs)
place_after n r rs lt p = (suc p.0, omega (arith, p.1), low, high)
  where
    low : (k : ℕ) (d : Report) → k < suc p.0 → id_of (get_or (r ∷ rs) k d) ≤ n
    low zero d within = omega (arith, lt)
    low (suc k) d within = p.2 k d (omega (arith, within))

    high : (k : ℕ) (d : Report) → suc p.0 ≤ k → k < length (r ∷ rs)
        → n ≤ id_of (get_or (r ∷ rs) k d)
    high zero d le within = absurd (omega (arith, le))
    high (suc k) d le within = p.3 k d (omega (arith, le)) (omega (arith, within))

find_place : (n : ℕ) (rs : List Report) → AreInOrder rs → Place n rs
find_place n [] up =
    (0, omega arith, λ k d lt. absurd (omega (arith, lt)), λ k d le lt. absurd (omega (arith, lt)))
find_place n (r ∷ rs) up =
    elim (either r.id n) [
      | inl lt ↦
          place_after n r rs lt (find_place n rs
          (λ i j d le within. up (suc i) (suc j) d (omega (arith, le)) (omega (arith, within))))
      | inr le ↦ (
        0,
        omega arith,
        λ k d lt. absurd (omega (arith, lt)),
        λ k d from within. let far = up 0 k d (omega arith) within in omega (arith, le, far),
      )
    ]

-- the same reports in order
pub by_id : (rs : List Report) → (ss : List Report) × IsPermutation rs ss × AreInOrder ss
by_id [] = ([], IsPermutation-refl [], IsNonDecreasingBy-short id_of [] (omega arith))
by_id (r ∷ rs) =
    let (ss, moved, up) = by_id rs in
    let p = find_place r.id ss up in (
      insert ss p.0 r,
      IsPermutation-trans (r ∷ rs) (r ∷ ss) (insert ss p.0 r) (IsPermutation-cons r rs ss moved)
          (IsPermutation-insert ss p.0 r),
      IsNonDecreasingBy-insert id_of ss p.0 r up p.1 p.2 p.3,
    )
