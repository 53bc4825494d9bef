-- An id more or less leaves ids that ascend.
use Rattle.std.proofs.Common.{◌≡◌, ◌+◌, ◌<◌, ◌≤◌, ℕ, List, [], ◌∷◌, true, false, cond, length}
use Rattle.std.proofs.Common.{refl, arith}
use Rattle.std.specs.Prelude.{◌==◌, nat_lt}
use Rattle.std.proofs.lemmas.Bool.Decides.{nat_tests}
use Rattle.id_set.specs.Ids.{AscendFrom, Ascend, with_id, without_id}

lower : (m n : ℕ) (ids : List ℕ) → m ≤ n → AscendFrom n ids → AscendFrom m ids
lower m n [] le h = tt
lower m n (id ∷ ids) le h = (omega arith, h.1)

ascend_with_from : (n id : ℕ) (ids : List ℕ) → n ≤ id → AscendFrom n ids
    → AscendFrom n (with_id id ids)
ascend_with_from n id [] le h = (le, tt)
ascend_with_from n id (x ∷ xs) le h =
    elim (nat_lt x id) as (λ b. nat_lt x id ≡ b
    → AscendFrom n (cond b (x ∷ with_id id xs) (cond (x == id) (x ∷ xs) (id ∷ x ∷ xs)))) [
      | true ↦ λ e. let below : x < id = grind (arith, nat_tests) in
          (h.0, ascend_with_from (x + 1) id xs (omega arith) h.1)
      | false ↦ grind (arith, nat_tests)
    ] refl

ascend_without_from : (n id : ℕ) (ids : List ℕ) → AscendFrom n ids
    → AscendFrom n (without_id id ids)
ascend_without_from n id [] h = tt
ascend_without_from n id (x ∷ xs) h =
    let rest = ascend_without_from (x + 1) id xs h.1 in
    grind (arith, lower)

pub ascend_with : (id : ℕ) (ids : List ℕ) → Ascend ids → Ascend (with_id id ids)
ascend_with id ids h = ascend_with_from 0 id ids (omega arith) h

pub ascend_without : (id : ℕ) (ids : List ℕ) → Ascend ids → Ascend (without_id id ids)
ascend_without id ids h = ascend_without_from 0 id ids h

-- a set with an id in it is not empty
pub with_some : (id : ℕ) (ids : List ℕ) → 0 < length (with_id id ids)
with_some id [] = omega arith
with_some id (x ∷ xs) = grind arith
