-- A connection among ids: put in where it is there, and taken out again where it was not.
use Rattle.std.proofs.Common.{◌≡◌, ◌+◌, ◌<◌, ℕ, List, [], ◌∷◌, true, false, cond, refl, ap, sym}
use Rattle.std.proofs.Common.{◌∙◌, arith, eq-eqb}
use Rattle.std.specs.Prelude.{◌==◌, ◌||◌, not, nat_lt}
use Rattle.std.specs.List.{list_any}
use Rattle.std.proofs.lemmas.Bool.{or_parts}
use Rattle.std.proofs.lemmas.Bool.Decides.{nat_tests}
use Rattle.id_set.specs.Ids.{AscendFrom, with_id, without_id}

pub without_same : (id : ℕ) (ids : List ℕ) → list_any (λ x. x == id) ids ≡ false
    → without_id id ids ≡ ids
without_same id [] none = refl
without_same id (x ∷ xs) none =
    let p = or_parts (x == id) (list_any (λ y. y == id) xs) none in
    ap (λ b. cond (not b) (x ∷ without_id id xs) (without_id id xs)) p.0
    ∙ ap (λ l. x ∷ l) (without_same id xs p.1)

pub without_with : (id : ℕ) (ids : List ℕ) → list_any (λ x. x == id) ids ≡ false
    → without_id id (with_id id ids) ≡ ids
without_with id [] none = grind (arith, eq-eqb)
without_with id (x ∷ xs) none =
    let p = or_parts (x == id) (list_any (λ y. y == id) xs) none in
    let rest = without_id id (with_id id xs) in
    elim (nat_lt x id) as (λ b. without_id id
    (cond b (x ∷ with_id id xs) (cond (x == id) (x ∷ xs) (id ∷ x ∷ xs))) ≡ x ∷ xs) [
      | true ↦ ap (λ b. cond (not b) (x ∷ rest) rest) p.0 ∙ ap (λ l. x ∷ l) (without_with id xs p.1)
      | false ↦ grind (arith, without_same, eq-eqb)
    ]

none_above : (id n : ℕ) (ids : List ℕ) → AscendFrom n ids → id < n
    → list_any (λ x. x == id) ids ≡ false
none_above id n [] a lt = refl
none_above id n (x ∷ xs) a lt =
    grind (arith, none_above id (x + 1) xs a.1 (let above = a.0 in omega arith))

pub with_held : (id n : ℕ) (ids : List ℕ) → AscendFrom n ids
    → list_any (λ x. x == id) ids ≡ true → with_id id ids ≡ ids
with_held id n [] a some = absurd (let no : ⊥ = cc in no)
with_held id n (x ∷ xs) a some =
    elim (nat_lt x id) as (λ b. nat_lt x id ≡ b
    → cond b (x ∷ with_id id xs) (cond (x == id) (x ∷ xs) (id ∷ x ∷ xs)) ≡ x ∷ xs) [
      | true ↦ λ e.
          let other : (x == id) ≡ false = grind (arith, nat_tests) in
          ap (λ l. x ∷ l) (with_held id (x + 1) xs a.1
          (sym (ap (λ b. b || list_any (λ y. y == id) xs) other) ∙ some))
      | false ↦ grind (arith, nat_tests, none_above)
    ] refl
