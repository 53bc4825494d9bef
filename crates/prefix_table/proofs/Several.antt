-- The places that keys have between them: in order and each once, they are those of any of them.
use Rattle.std.proofs.Common.{◌≡◌, ◌<◌, ◌≤◌, ◌+◌, ℕ, List, [], ◌∷◌, Bool, true, false, cond}
use Rattle.std.proofs.Common.{length, eqb, refl, sym, ap, ◌∙◌, inl, inr, arith}
use Rattle.std.specs.Prelude.{◌==◌, ◌||◌}
use Rattle.std.specs.List.{AllByRecursion, dedup, dedup_from, flat_map, list_any}
use Rattle.std.specs.List.Sorted.{IsPermutation, IsSorted, IsStrictlySortedBy}
use Rattle.std.specs.Ordering.{nat_cmp}
use Rattle.std.specs.declared.cmp.Ordering.TheVariants.{Less}
use Rattle.std.proofs.lemmas.Bool.{cases_lt}
use Rattle.std.proofs.lemmas.Bool.Decides.{nat_tests}
use Rattle.std.proofs.lemmas.List.Folds.{list_any-append}
use Rattle.std.proofs.lemmas.List.Sorted.{list_any-IsPermutation}
use Rattle.std.proofs.lemmas.Map.Keys.{IsStrictlyIncreasing-dedup}
use Rattle.std.proofs.lemmas.Map.Keys.{sorted_from_strictly_increasing}
use Prim.Native.Nat.{zero, suc}
use Rattle.prefix_table.specs.declared.table.Registration.{Registration}
use Rattle.prefix_table.specs.Table.{places_of, places_of_any, starts_with_at}
use Rattle.prefix_table.proofs.Matching.{kept, kept_none, kept_same}

abbrev has : ℕ → List ℕ → Bool
has i xs = list_any (λ x. x == i) xs

-- ---- what is among those that pass a test

within : (p : ℕ → Bool) (a m i : ℕ) → has i (kept p a m) ≡ true → (a ≤ i) × (i < a + m)
within p a zero i e = absurd (let no : ⊥ = cc in no)
within p a (suc m) i e =
    elim (p a) as (λ b. has i (cond b (a ∷ kept p (a + 1) m) (kept p (a + 1) m)) ≡ true
    → (a ≤ i) × (i < a + suc m)) [
      | true ↦ λ f. elim (cases_lt a i) [
        | inl after ↦
            let other : (a == i) ≡ false = grind (arith, nat_tests) in
            let w = within p (a + 1) m i
            (sym (ap (λ b. b || has i (kept p (a + 1) m)) other) ∙ f) in
            (omega (arith, w.0), omega (arith, w.1))
        | inr up_to ↦ grind (arith, nat_tests, within p (a + 1) m i)
      ]
      | false ↦ λ f. let w = within p (a + 1) m i f in (omega (arith, w.0), omega (arith, w.1))
    ] e

pub has_kept : (p : ℕ → Bool) (a m i : ℕ) → a ≤ i → i < a + m → has i (kept p a m) ≡ p i
has_kept p a zero i le lt = absurd (omega arith)
has_kept p a (suc m) i le lt = elim (cases_lt a i) [
  | inl after ↦
      let other : (a == i) ≡ false = grind (arith, nat_tests) in
      let rest = has_kept p (a + 1) m i (omega arith) (omega arith) in
      elim (p a) as (λ b. has i (cond b (a ∷ kept p (a + 1) m) (kept p (a + 1) m)) ≡ p i) [
        | true ↦ ap (λ b. b || has i (kept p (a + 1) m)) other ∙ rest
        | false ↦ rest
      ]
  | inr here ↦
      let at : i ≡ a = omega arith in
      elim (p a) as (λ b. p a ≡ b
      → has i (cond b (a ∷ kept p (a + 1) m) (kept p (a + 1) m)) ≡ p i) [
        | true ↦ λ e. grind (arith, nat_tests)
        | false ↦ λ e. grind (arith, within p (a + 1) m i)
      ] refl
]

-- ---- what is among a list without its repetitions

has_from : (i k : ℕ) (xs : List ℕ) → has i (dedup_from eqb k xs) ≡ has i (k ∷ xs)
has_from i k [] = refl
has_from i k (x ∷ xs) =
    elim (eqb x k) as (λ b. eqb x k ≡ b
    → has i (cond b (dedup_from eqb k xs) (k ∷ dedup_from eqb x xs)) ≡ has i (k ∷ x ∷ xs)) [
      | true ↦ λ e. grind (arith, nat_tests, has_from i k xs)
      | false ↦ λ e. ap (λ b. (k == i) || b) (has_from i x xs)
    ] refl

has_dedup : (i : ℕ) (xs : List ℕ) → has i (dedup eqb xs) ≡ has i xs
has_dedup i [] = refl
has_dedup i (x ∷ xs) = has_from i x xs

-- ---- a list in order is those numbers that it has

above : (x i : ℕ) (xs : List ℕ) → AllByRecursion (λ y. nat_cmp x y ≡ Less) xs
    → has i xs ≡ true → x < i
above x i [] all e = absurd (let no : ⊥ = cc in no)
above x i (y ∷ ys) all e = grind (arith, nat_tests, above x i ys all.1)

as_kept : (xs : List ℕ) (a m : ℕ) → IsStrictlySortedBy nat_cmp xs
    → ((i : ℕ) → has i xs ≡ true → (a ≤ i) × (i < a + m))
    → xs ≡ kept (λ i. has i xs) a m
unfolding IsStrictlySortedBy
as_kept [] a m up in_range = sym (kept_none (λ i. false) a m (λ i le lt. refl))
as_kept (x ∷ xs) a zero up in_range =
    let here = in_range x (grind (arith, nat_tests)) in absurd (omega (arith, here.0, here.1))
as_kept (x ∷ xs) a (suc m) up in_range =
    let here = in_range x (grind (arith, nat_tests)) in
    elim (cases_lt a x) [
      | inl after ↦
          let none : has a (x ∷ xs) ≡ false = grind (arith, nat_tests, above x a xs up.0) in
          as_kept (x ∷ xs) (a + 1) m up (λ i e. let w = in_range i e in
          (grind (arith, nat_tests, above x i xs up.0), omega (arith, w.1)))
          ∙ sym (ap (λ b. cond b (a ∷ kept (λ i. has i (x ∷ xs)) (a + 1) m)
          (kept (λ i. has i (x ∷ xs)) (a + 1) m)) none)
      | inr up_to ↦
          let at : x ≡ a = omega (arith, here.0) in
          let some : has a (x ∷ xs) ≡ true = grind (arith, nat_tests) in
          ap (λ l. x ∷ l) (as_kept xs (a + 1) m up.1 (λ i e.
          let more = above x i xs up.0 e in
          let w = in_range i (grind arith) in (omega (arith, more), omega (arith, w.1)))
          ∙ kept_same (λ i. has i xs) (λ i. has i (x ∷ xs)) (a + 1) m
          (λ i le lt. grind (arith, nat_tests)))
          ∙ ap (λ k. k ∷ kept (λ i. has i (x ∷ xs)) (a + 1) m) at
          ∙ sym (ap (λ b. cond b (a ∷ kept (λ i. has i (x ∷ xs)) (a + 1) m)
          (kept (λ i. has i (x ∷ xs)) (a + 1) m)) some)
    ]

-- ---- the places of keys

module _ (rs : List Registration) where
  abbrev pub all_places : List (List ℕ) → List ℕ
  all_places keys = flat_map (λ key. places_of key rs) keys

  any_place : (i : ℕ) (keys : List (List ℕ)) → i < length rs
      → has i (all_places keys) ≡ list_any (λ key. starts_with_at key rs i) keys
  any_place i [] lt = refl
  any_place i (key ∷ keys) lt =
      list_any-append (λ x. x == i) (places_of key rs) (all_places keys)
      ∙ ap (λ b. b || has i (all_places keys))
      (has_kept (starts_with_at key rs) 0 (length rs) i (omega arith) (omega arith))
      ∙ ap (λ b. starts_with_at key rs i || b) (any_place i keys lt)

  places_within : (i : ℕ) (keys : List (List ℕ)) → has i (all_places keys) ≡ true
      → i < length rs
  places_within i [] e = absurd (let no : ⊥ = cc in no)
  places_within i (key ∷ keys) e =
      elim (has i (places_of key rs)) as (λ b. has i (places_of key rs) ≡ b → i < length rs) [
        | true ↦ λ f. let w = within (starts_with_at key rs) 0 (length rs) i f in omega (arith, w.1)
        | false ↦ λ f. places_within i keys
            (sym (ap (λ b. b || has i (all_places keys)) f)
            ∙ sym (list_any-append (λ x. x == i) (places_of key rs) (all_places keys)) ∙ e)
      ] refl

  -- sorted and each once
  pub merged : (keys : List (List ℕ)) (sorted : List ℕ) → IsPermutation (all_places keys) sorted
      → IsSorted nat_cmp sorted → dedup eqb sorted ≡ places_of_any keys rs
  merged keys sorted moved up =
      let same : (i : ℕ) → has i (dedup eqb sorted) ≡ has i (all_places keys) =
      λ i. has_dedup i sorted ∙ sym (list_any-IsPermutation (λ x. x == i) (all_places keys)
      sorted moved) in
      as_kept (dedup eqb sorted) 0 (length rs)
      (sorted_from_strictly_increasing _ (IsStrictlyIncreasing-dedup sorted up))
      (λ i e. let lt = places_within i keys (sym (same i) ∙ e) in
      (omega arith, omega (arith, lt)))
      ∙ kept_same (λ i. has i (dedup eqb sorted))
      (λ i. list_any (λ key. starts_with_at key rs i) keys) 0 (length rs)
      (λ i le lt. same i ∙ any_place i keys (omega arith))
