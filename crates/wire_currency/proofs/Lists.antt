-- Places in lists, and the least and the greatest over one.
use Rattle.std.proofs.Common.{◌≡◌, ◌<◌, ◌≤◌, ℕ, zero, suc, List, [], ◌∷◌, ◌++◌, length, ◌+◌}
use Rattle.std.proofs.Common.{Bool, true, false, drop, take, max, min, cond, refl, ap, sym, ◌∙◌}
use Rattle.std.proofs.Common.{arith, Some, ◌⊎◌, inl, inr}
use Rattle.std.specs.Prelude.{slice_get}
use Rattle.std.specs.List.{filter}
use Rattle.std.proofs.lemmas.Bool.{cases_lt}
use Rattle.std.proofs.lemmas.Grind.{common_steps}
use Rattle.wire_currency.specs.Traffic.{In}
use Rattle.wire_currency.specs.Current.{least, greatest, last_named}

-- what has a place among the first has it among all
pub get_front : {A : Type 0} (xs ys : List A) (i : ℕ) (x : A) → slice_get xs i ≡ Some x
    → slice_get (xs ++ ys) i ≡ Some x
get_front [] ys i h e = cc
get_front (y ∷ xs) ys zero h e = e
get_front (y ∷ xs) ys (suc i) x e = get_front xs ys i x e

pub record Behind {A : Type 0} (xs ys : List A) (i : ℕ) (x : A) : Type 0 where
  pub at : ℕ
  pub is : length xs + at ≡ i
  pub there : slice_get ys at ≡ Some x

-- a place is among the first, or behind them
pub get_parts : {A : Type 0} (xs ys : List A) (i : ℕ) (x : A) → slice_get (xs ++ ys) i ≡ Some x
    → (slice_get xs i ≡ Some x) ⊎ Behind xs ys i x
get_parts [] ys i h e = inr (record { at = i; is = omega arith; there = e })
get_parts (y ∷ xs) ys zero h e = inl e
get_parts (y ∷ xs) ys (suc i) x e = grind (arith, get_parts xs ys i x e)

pub get_one : {A : Type 0} (y : A) (i : ℕ) (x : A) → slice_get (y ∷ []) i ≡ Some x
    → (i ≡ 0) × (y ≡ x)
get_one y i h e = grind arith

-- the first that is left
pub get_dropped : {A : Type 0} (n : ℕ) (xs ys : List A) (y : A) → drop n xs ≡ y ∷ ys
    → slice_get xs n ≡ Some y
get_dropped zero xs ys y e = ap (λ l. slice_get l 0) e
get_dropped (suc n) [] ys y e = absurd (let no : ⊥ = cc in no)
get_dropped (suc n) (x ∷ xs) ys y e = get_dropped n xs ys y e

pub nothing_dropped : {A : Type 0} (n : ℕ) (xs : List A) → drop n xs ≡ [] → length xs ≤ n
nothing_dropped zero (x ∷ xs) e = absurd (let no : ⊥ = cc in no)
nothing_dropped (suc n) (x ∷ xs) e =
    let r = nothing_dropped n xs e in omega (arith, r)
nothing_dropped n [] e = omega arith

-- ---- all of a list

pub record Found {A : Type 0} (test : A → Bool) (xs : List A) : Type 0 where
  pub one : A
  pub among : In one xs
  pub passes : test one ≡ true

-- each fails the test, or one passes it
pub all_or_one : {A : Type 0} (test : A → Bool) (xs : List A)
    → ((x : A) → In x xs → test x ≡ false) ⊎ Found test xs
all_or_one test [] = inl (λ x h. absurd h)
all_or_one {A} test (y ∷ ys) =
    elim (test y) as (λ b. test y ≡ b
    → ((x : A) → In x (y ∷ ys) → test x ≡ false) ⊎ Found test (y ∷ ys)) [
      | true ↦ λ h. inr (record { one = y; among = inl refl; passes = h })
      | false ↦ λ h.
          elim (all_or_one test ys) [
            | inl none ↦
                inl (λ x among. elim among [
                  | inl e ↦ ap test (sym e) ∙ h
                  | inr rest ↦ none x rest
                ])
            | inr one ↦
                inr (record { one = one.one; among = inr one.among; passes = one.passes })
          ]
    ] refl

-- ---- the least and the greatest

pub least_le : {A : Type 0} (on : A → ℕ) (all : ℕ) (xs : List A)
    → ((x : A) → In x xs → on x ≤ all) → least on all xs ≤ all
least_le on all [] each = omega arith
least_le on all (x ∷ []) each = each x (inl refl)
least_le on all (x ∷ y ∷ xs) each =
    let here = each x (inl refl) in omega (arith, here)

pub least_below : {A : Type 0} (on : A → ℕ) (all : ℕ) (xs : List A) (x : A) → In x xs
    → least on all xs ≤ on x
least_below on all [] x h = absurd h
least_below on all (y ∷ []) x h =
    elim h [
      | inl e ↦ let same : on y ≡ on x = ap on e in omega (arith, same)
      | inr none ↦ absurd none
    ]
least_below on all (y ∷ z ∷ xs) x h =
    elim h [
      | inl e ↦ let same : on y ≡ on x = ap on e in omega (arith, same)
      | inr rest ↦ let r = least_below on all (z ∷ xs) x rest in omega (arith, r)
    ]

-- a bound of each is a bound of the least
pub least_from : {A : Type 0} (on : A → ℕ) (all n : ℕ) (xs : List A) → n ≤ all
    → ((x : A) → In x xs → n ≤ on x) → n ≤ least on all xs
least_from on all n [] le each = le
least_from on all n (x ∷ []) le each = each x (inl refl)
least_from on all n (x ∷ y ∷ xs) le each =
    let r = least_from on all n (y ∷ xs) le (λ z h. each z (inr h)) in
    let here = each x (inl refl) in omega (arith, r, here)

-- the least is that of one
pub least_is : {A : Type 0} (on : A → ℕ) (all : ℕ) (xs : List A) (x : A) → In x xs
    → (y : A) × In y xs × (least on all xs ≡ on y)
least_is on all [] x h = absurd h
least_is on all (y ∷ []) x h = (y, inl refl, refl)
least_is {A} on all (y ∷ z ∷ xs) x h =
    let r = least_is on all (z ∷ xs) z (inl refl) in
    elim (cases_lt (on y) (least on all (z ∷ xs))) [
      | inl lt ↦
          let m : min (on y) (least on all (z ∷ xs)) ≡ on y = omega (arith, lt) in
          (y, inl refl, m)
      | inr le ↦
          let m : min (on y) (least on all (z ∷ xs)) ≡ least on all (z ∷ xs) =
          omega (arith, le) in
          (r.0, inr r.1, m ∙ r.2)
    ]

-- the greatest, where it is not 0, is that of one
pub greatest_is : {A : Type 0} (on : A → ℕ) (xs : List A) → 0 < greatest on xs
    → (x : A) × In x xs × (on x ≡ greatest on xs)
greatest_is on [] h = absurd (let no : ⊥ = omega (arith, h) in no)
greatest_is on (x ∷ []) h = (x, inl refl, refl)
greatest_is {A} on (x ∷ y ∷ xs) h =
    elim (cases_lt (on x) (greatest on (y ∷ xs))) [
      | inl lt ↦
          let r = greatest_is on (y ∷ xs) (omega (arith, lt)) in
          let m : max (on x) (greatest on (y ∷ xs)) ≡ greatest on (y ∷ xs) = omega (arith, lt) in
          (r.0, inr r.1, r.2 ∙ sym m)
      | inr le ↦
          let m : max (on x) (greatest on (y ∷ xs)) ≡ on x = omega (arith, le) in
          (x, inl refl, sym m)
    ]

-- ---- the last that is named

pub record NamedAt {C : Type 0} (names : C → Bool) (runs : List C) (entries : List ℕ) (last : ℕ)
    : Type 0 where
  pub place : ℕ
  pub words : C
  pub there : slice_get runs place ≡ Some words
  pub entry : slice_get entries place ≡ Some last
  pub named : names words ≡ true

pub named_at : {C : Type 0} (names : C → Bool) (runs : List C) (entries : List ℕ)
    → 0 < last_named names runs entries
    → NamedAt names runs entries (last_named names runs entries)
named_at names [] entries h = absurd (let no : ⊥ = omega (arith, h) in no)
named_at names (w ∷ runs) [] h = absurd (let no : ⊥ = omega (arith, h) in no)
named_at names (w ∷ runs) (r ∷ entries) h =
    elim (names w) as (λ b. names w ≡ b
    → 0 < max (cond b r 0) (last_named names runs entries)
    → NamedAt names (w ∷ runs) (r ∷ entries) (max (cond b r 0) (last_named names runs entries))) [
      | true ↦ λ is h.
          elim (cases_lt r (last_named names runs entries)) [
            | inl lt ↦
                let m : max r (last_named names runs entries) ≡ last_named names runs entries =
                omega (arith, lt) in
                let rest = named_at names runs entries (omega (arith, lt)) in record {
                  place = suc rest.place;
                  words = rest.words;
                  there = rest.there;
                  entry = rest.entry ∙ ap Some (sym m);
                  named = rest.named;
                }
            | inr le ↦
                let m : max r (last_named names runs entries) ≡ r = omega (arith, le) in record {
                  place = 0;
                  words = w;
                  there = refl;
                  entry = ap Some (sym m);
                  named = is;
                }
          ]
      | false ↦ λ is h.
          let m : max 0 (last_named names runs entries) ≡ last_named names runs entries =
          omega arith in
          let rest = named_at names runs entries (omega (arith, h)) in record {
            place = suc rest.place;
            words = rest.words;
            there = rest.there;
            entry = rest.entry ∙ ap Some (sym m);
            named = rest.named;
          }
    ] refl h

pub record Taken {A : Type 0} (n : ℕ) (xs : List A) (i : ℕ) (x : A) : Type 0 where
  pub there : slice_get xs i ≡ Some x
  pub below : i < n

pub get_taken : {A : Type 0} (n : ℕ) (xs : List A) (i : ℕ) (x : A)
    → slice_get (take n xs) i ≡ Some x → Taken n xs i x
get_taken zero xs i h e = absurd (let no : ⊥ = cc in no)
get_taken (suc n) [] i h e = absurd (let no : ⊥ = cc in no)
get_taken (suc n) (y ∷ xs) zero h e = record { there = e; below = omega arith }
get_taken (suc n) (y ∷ xs) (suc i) x e = grind (arith, get_taken n xs i x e)

-- one of those that pass a test
pub one_kept : {A : Type 0} (p : A → Bool) (xs : List A) (i : ℕ) (y : A)
    → slice_get (filter p xs) i ≡ Some y → p y ≡ true
one_kept p [] i y at = cc
one_kept p (x ∷ xs) zero y at = grind (arith, common_steps, one_kept p xs 0 y)
one_kept p (x ∷ xs) (suc i) y at =
    grind (arith, common_steps, one_kept p xs i y, one_kept p xs (suc i) y)

-- there is one at each place below the length
pub at_place : {A : Type 0} (xs : List A) (i : ℕ) → i < length xs
    → (x : A) × (slice_get xs i ≡ Some x)
at_place [] i lt = absurd (let no : ⊥ = omega (arith, lt) in no)
at_place (x ∷ xs) zero lt = (x, refl)
at_place (x ∷ xs) (suc i) lt = at_place xs i (omega (arith, lt))
