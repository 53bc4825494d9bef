-- What is held, sorted: each entry stands at its place.
use Rattle.std.proofs.lemmas.Bool.{cases_Bool, cases_eq}
use Rattle.std.proofs.Common.{◌≡◌, ◌==◌, ◌+◌, ◌<◌, ◌≤◌, ℕ, zero, suc, List, [], ◌∷◌, length, get_or}
use Rattle.std.proofs.Common.{true, false, cond, Some, sym, ap, ◌∙◌, refl, inl, inr, subst, arith}
use Rattle.std.proofs.Common.{eq-eqb, Bool}
use denote.Param.Members.{Mut}
use denote.Ref.{Bor}
use Rattle.std.specs.declared.cmp.Ordering.{Ordering}
use Rattle.std.specs.Cmp.{IsStrictWeakOrder}
use Rattle.std.specs.Fn.{Called, ComparesAs}
use Rattle.std.specs.List.{slice_get, sum_by}
use Rattle.std.specs.List.Sorted.{IsPermutation, IsSortedBy}
use Rattle.std.proofs.lemmas.List.Sums.{sum_by-cons, sum_by-append}
use Rattle.std.proofs.lemmas.List.Sorted.{sum_by-IsPermutation, All-permutation, IsPermutation-map}
use Rattle.std.proofs.lemmas.List.Sorted.{ranks_by, answers_always, sorted_far}
use Rattle.std.proofs.lemmas.Option.{slice_get_cases}
use Rattle.std.proofs.lemmas.Grind.{common_steps}
use Rattle.shared_cache.specs.declared.entry.CacheEntry.{CacheEntry}
use Rattle.shared_cache.specs.Held.{Key, order, is_before, rank, held_in_place}
use Rattle.shared_cache.specs.HeldKeys.{Pairs, ArePairsOf, listed, of_key, but_key, IsSortedAs}
use Rattle.shared_cache.specs.HeldKeys.{seen}
use Rattle.shared_cache.specs.Laws.{Every}
use Rattle.shared_cache.proofs.Order.{Among, Apart, ranked_some, ranked_is, same_ranked, every_of}
use Rattle.shared_cache.proofs.Order.{before_not, before_other, rank_more, rank_same}
use Rattle.shared_cache.proofs.Order.{no_place, order_total}
use Rattle.shared_cache.proofs.Every.{every_both}
use Rattle.shared_cache.proofs.Places.{listed_held}

-- ---- sums over what is held, one key after the other

sum_parts : (f : CacheEntry → ℕ) (k : Key) (hs : List CacheEntry)
    → sum_by f (of_key k hs) + sum_by f (but_key k hs) ≡ sum_by f hs
sum_parts f k [] = refl
sum_parts f k (g ∷ gs) = grind (arith, sum_by-cons, sum_parts f k gs)

sum_listed : (f : CacheEntry → ℕ) (pairs : Pairs) (hs : List CacheEntry) → ArePairsOf pairs hs
    → sum_by f (listed pairs) ≡ sum_by f hs
sum_listed f [] hs p = ap (sum_by f) (sym p)
sum_listed f (r ∷ pairs) hs p =
    grind (arith, sum_by-append, sum_parts, sum_listed f pairs (but_key r.0 hs) p.2)

abbrev Sums : List CacheEntry → List CacheEntry → Type 0
Sums xs ys = (f : CacheEntry → ℕ) → sum_by f xs ≡ sum_by f ys

abbrev one_before : CacheEntry → CacheEntry → ℕ
one_before h o = cond (is_before o h) 1 0

rank_sum : (h : CacheEntry) (os : List CacheEntry) → rank h os ≡ sum_by (one_before h) os
rank_sum h [] = refl
rank_sum h (o ∷ os) = grind (arith, common_steps, rank_sum h os, sum_by-cons (one_before h) o os)

length_sum : (hs : List CacheEntry) → sum_by (λ o. 1) hs ≡ length hs
length_sum [] = refl
length_sum (h ∷ hs) = let e = length_sum hs in omega (arith, e, sum_by-cons (λ o. 1) h hs)

-- ---- how often a number stands there

abbrev one_of : ℕ → CacheEntry → ℕ
one_of n o = cond (o.number == n) 1 0

abbrev count : ℕ → List CacheEntry → ℕ
count n = sum_by (one_of n)

count_more : (n : ℕ) (o : CacheEntry) (os : List CacheEntry) → o.number ≡ n
    → count n (o ∷ os) ≡ count n os + 1
count_more n o os e =
    let c = sum_by-cons (one_of n) o os in
    grind (arith, one_of, eq-eqb)

count_same : (n : ℕ) (o : CacheEntry) (os : List CacheEntry) → (o.number ≡ n → ⊥)
    → count n (o ∷ os) ≡ count n os
count_same n o os e = grind arith

count_none : (n : ℕ) (hs : List CacheEntry) → Every (λ o. o.number ≡ n → ⊥) hs → count n hs ≡ 0
count_none n [] e = refl
count_none n (h ∷ hs) e = count_same n h hs e.0 ∙ count_none n hs e.1

count_once : (n : ℕ) (hs : List CacheEntry) → Apart hs → count n hs ≤ 1
count_once n [] apart = omega arith
count_once n (h ∷ hs) apart = elim (cases_eq h.number n) [
  | inl same ↦
      let c = count_more n h hs same in
      let z = count_none n hs (subst (λ m. Every (λ o. o.number ≡ m → ⊥) hs) same apart.0) in
      omega (arith, c, z)
  | inr other ↦
      let c = count_same n h hs other in
      let r = count_once n hs apart.1 in
      omega (arith, c, r)
]

count_in : (n : ℕ) (o : CacheEntry) (hs : List CacheEntry) → Among o hs → o.number ≡ n
    → 1 ≤ count n hs
count_in n o [] a e = absurd a
count_in n o (h ∷ hs) (inl same) e = grind (arith, count_more)
count_in n o (h ∷ hs) (inr a) e =
    let r = count_in n o hs a e in
    let c = sum_by-cons (one_of n) h hs in
    omega (arith, r, c)

-- where no number stands twice, the numbers are apart
apart_of : (ys : List CacheEntry) → ((n : ℕ) → count n ys ≤ 1) → Apart ys
apart_of [] once = tt
apart_of (y ∷ ys) once = (
  every_of _ ys (λ o a e.
      let c = count_more y.number y ys refl in
      let r = count_in y.number o ys a e in
      let w = once y.number in
      let no : ⊥ = omega (arith, c, r, w) in no),
  apart_of ys (λ n.
      let c = sum_by-cons (one_of n) y ys in
      let w = once n in
      omega (arith, c, w)),
)

-- ---- a list in order

abbrev Far : List CacheEntry → Type 0
Far ys =
    (i j : ℕ) (d : CacheEntry) → i ≤ j → j < length ys
    → is_before (get_or ys j d) (get_or ys i d) ≡ false

abbrev Up : List CacheEntry → Type 0
Up [] = Unit {0}
Up (y ∷ ys) = Every (λ z. is_before y z ≡ true) ys × Up ys

every_index : (P : CacheEntry → Type 0) (d : CacheEntry) (ys : List CacheEntry)
    → ((j : ℕ) → j < length ys → P (get_or ys j d)) → Every P ys
every_index P d [] h = tt
every_index P d (y ∷ ys) h =
    (h 0 (omega arith), every_index P d ys (λ j lt. h (suc j) (omega (arith, lt))))

every_get : (P : CacheEntry → Type 0) (d : CacheEntry) (ys : List CacheEntry) → Every P ys → (k : ℕ)
    → k < length ys → P (get_or ys k d)
every_get P d [] e k lt = absurd (let no : ⊥ = omega (arith, lt) in no)
every_get P d (y ∷ ys) e zero lt = e.0
every_get P d (y ∷ ys) e (suc k) lt = every_get P d ys e.1 k (omega (arith, lt))

up_of : (ys : List CacheEntry) → Apart ys → Far ys → Up ys
up_of [] apart far = tt
up_of (y ∷ ys) apart far = (
  every_both (λ z. z.number ≡ y.number → ⊥) (λ z. is_before z y ≡ false)
      (λ z. is_before y z ≡ true) ys (λ z ne not_. before_other z y ne not_) apart.0
      (every_index (λ z. is_before z y ≡ false) y ys
      (λ j lt. far 0 (suc j) y (omega arith) (omega (arith, lt)))),
  up_of ys apart.1 (λ i j d le lt. far (suc i) (suc j) d (omega (arith, le)) (omega (arith, lt))),
)

rank_first : (y : CacheEntry) (ys : List CacheEntry) → Every (λ z. is_before y z ≡ true) ys
    → rank y ys ≡ 0
rank_first y [] e = refl
rank_first y (z ∷ zs) e = rank_same y z zs (before_not y z e.0) ∙ rank_first y zs e.1

rank_up : (ys : List CacheEntry) → Up ys → (k : ℕ) (d : CacheEntry) → k < length ys
    → rank (get_or ys k d) ys ≡ k
rank_up [] up k d lt = absurd (let no : ⊥ = omega (arith, lt) in no)
rank_up (y ∷ ys) up zero d lt =
    rank_same y y ys (grind (arith, cases_Bool, before_not)) ∙ rank_first y ys up.0
rank_up (y ∷ ys) up (suc k) d lt =
    let below : k < length ys = omega (arith, lt) in
    let m = rank_more (get_or ys k d) y ys
    (every_get (λ z. is_before y z ≡ true) d ys up.0 k below) in
    let r = rank_up ys up.1 k d below in
    omega (arith, m, r)

among_get : (ys : List CacheEntry) (k : ℕ) (d : CacheEntry) → k < length ys
    → Among (get_or ys k d) ys
among_get [] k d lt = absurd (let no : ⊥ = omega (arith, lt) in no)
among_get (y ∷ ys) zero d lt = inl refl
among_get (y ∷ ys) (suc k) d lt = inr (among_get ys k d (omega (arith, lt)))

-- ---- each stands at its place

module _ (pairs : Pairs) (hs ys : List CacheEntry) (p : ArePairsOf pairs hs) (apart : Apart hs)
    (sorted : IsSortedAs (listed pairs) ys) where
  same_sums : Sums ys hs
  same_sums f =
      sum_by-IsPermutation f (listed pairs) ys sorted.permutes ∙ sum_listed f pairs hs p

  up : Up ys
  up = grind (arith, up_of, apart_of, same_sums, count_once)

  among_hs : (k : ℕ) (d : CacheEntry) → k < length ys → Among (get_or ys k d) hs
  among_hs k d lt =
      listed_held pairs hs (get_or ys k d) p
      (All-permutation (λ y. Among y (listed pairs)) (listed pairs) ys sorted.permutes
      (λ i e below. among_get (listed pairs) i e below) k d lt)

  at_place : (place : ℕ) (y : CacheEntry) → place < length ys → get_or ys place y ≡ y
      → held_in_place place hs ≡ Some y
  at_place place y lt is =
      let a : Among y hs = subst (λ z. Among z hs) is (among_hs place y lt) in
      let r : rank y hs ≡ place =
      rank_sum y hs ∙ sym (same_sums (one_before y)) ∙ sym (rank_sum y ys)
      ∙ ap (λ z. rank z ys) (sym is) ∙ rank_up ys up place y lt in
      let s = ranked_some place hs hs y a r in
      let t = ranked_is place hs hs s.0 s.1 in
      s.1 ∙ ap Some (same_ranked hs s.0 y apart t.0 a (t.1 ∙ sym r))

  pub sorted_places : (place : ℕ) → slice_get ys place ≡ held_in_place place hs
  sorted_places place = elim (slice_get_cases ys place).1 [
    | inl found ↦ found.2 ∙ sym (at_place place found.0 found.1 found.3)
    | inr past ↦
        let n : length ys ≡ length hs =
        sym (length_sum ys) ∙ same_sums (λ o. 1) ∙ length_sum hs in
        past.1 ∙ sym (no_place hs place (let le = past.0 in omega (arith, n, le)))
  ]

-- ---- a sort of references

abbrev Shown : Type 0
Shown = Bor CacheEntry

seen_length : (xs : List Shown) → length (seen xs) ≡ length xs
seen_length [] = refl
seen_length (x ∷ xs) = let e = seen_length xs in omega (arith, e)

seen_at : (xs : List Shown) (j : ℕ) (d : CacheEntry) (e : Shown) → j < length xs
    → get_or (seen xs) j d ≡ (get_or xs j e).now
seen_at [] j d e lt = absurd (let no : ⊥ = omega (arith, lt) in no)
seen_at (x ∷ xs) zero d e lt = refl
seen_at (x ∷ xs) (suc j) d e lt = seen_at xs j d e (omega (arith, lt))

abbrev before : Shown → Shown → Bool
before a b = is_before a.now b.now

seen_far : (ys : List Shown)
    → ((i j : ℕ) (d : Shown) → i ≤ j → j < length ys
    → before (get_or ys j d) (get_or ys i d) ≡ false)
    → Far (seen ys)
seen_far [] far i j d le lt = absurd (let no : ⊥ = omega (arith, lt) in no)
seen_far (y ∷ ys) far i j d le lt =
    let n = seen_length (y ∷ ys) in
    let short : j < length (y ∷ ys) = omega (arith, n, lt) in
    let shorter : i < length (y ∷ ys) = omega (arith, short, le) in
    (λ k. is_before (seen_at (y ∷ ys) j d y short k) (seen_at (y ∷ ys) i d y shorter k))
    ∙ far i j y le short

module _ {F : Type 0} {g : Mut F (Bor Shown × (Bor Shown × Unit {0})) Ordering} {f : F} where
  -- what a sort by the order leaves of what references show
  pub sorted_as : (xs ys : List Shown) (hs zs : List CacheEntry) → seen xs ≡ hs → zs ≡ seen ys
      → IsPermutation xs ys
      → ((lt : Shown → Shown → Bool) → IsStrictWeakOrder lt → ComparesAs g lt f → IsSortedBy lt ys)
      → ((f : F) (a : Bor Shown × (Bor Shown × Unit {0})) (r : Ordering) (f' : F)
      → Called g f a r f' → r ≡ order a.0.now.now a.1.0.now.now)
      → IsSortedAs hs zs
  sorted_as xs ys hs zs from to permutes sorts answers =
      let weak : IsStrictWeakOrder before =
      ranks_by order_total (λ (b : Shown). b.now) in
      let compares : ComparesAs g before f = grind (arith, answers_always, before) in
      record {
        permutes =
            subst (λ l. IsPermutation l zs) from
            (subst (IsPermutation (seen xs)) (sym to)
            (IsPermutation-map (λ (b : Shown). b.now) xs ys permutes));
        ascends =
            subst Far (sym to)
            (seen_far ys (sorted_far before weak ys (sorts before weak compares)));
      }
