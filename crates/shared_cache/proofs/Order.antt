-- The places of what is held.
use Rattle.std.proofs.Common.{◌≡◌, ◌+◌, ◌-◌, ◌<◌, ◌≤◌, ◌++◌, ◌⊎◌, ℕ, List, [], ◌∷◌, length}
use Rattle.std.proofs.Common.{append-nil, Bool, true, false, cond, Option, Some, None, sym, ap, ◌∙◌}
use Rattle.std.proofs.Common.{refl, subst, inl, inr, arith, eq-eqb, ne_eqb}
use Rattle.std.specs.declared.cmp.Ordering.{Ordering}
use Rattle.std.specs.Ordering.{nat_cmp, is_lt, ordering_then, ordering_reverse}
use Rattle.std.specs.declared.cmp.Ordering.TheVariants.{Less, Equal, Greater}
use Rattle.std.specs.Cmp.{IsTotalOrder}
use Rattle.std.specs.Cmp.Lexicographic.{slice_cmp}
use Rattle.std.proofs.lemmas.Bool.{cases_eq, cases_lt, cases_Bool}
use Rattle.std.proofs.lemmas.Cmp.{nat_list_cmp_total, then_total}
use Rattle.std.proofs.lemmas.Map.Lookups.{exact_unsigned}
use Rattle.std.proofs.lemmas.Option.{same_Some}
use Rattle.std.proofs.lemmas.Grind.{common_steps}
use Rattle.resp_value.specs.declared.value.Value.{Value}
use Rattle.shared_cache.specs.declared.entry.CacheEntry.{CacheEntry}
use Rattle.shared_cache.specs.declared.log.Wire.TheVariants.{Main}
use Rattle.shared_cache.specs.Log.{replies}
use Rattle.shared_cache.specs.Held.{Words, shown_words, hold, held_by, held, open_fetch, left}
use Rattle.shared_cache.specs.Held.{order, is_before, rank, ranked, held_in_place}
use Rattle.shared_cache.specs.Laws.{Every, InOrder, HeldInOrder}
use Rattle.shared_cache.proofs.Every.{every_append, every_weaker}

abbrev pub Among : CacheEntry → List CacheEntry → Type 0
Among h [] = ⊥
Among h (o ∷ os) = (h ≡ o) ⊎ Among h os

-- no two have the same number
abbrev pub Apart : List CacheEntry → Type 0
Apart [] = Unit {0}
Apart (h ∷ hs) = Every (λ o. o.number ≡ h.number → ⊥) hs × Apart hs

pub every_at : (P : CacheEntry → Type 0) (hs : List CacheEntry) (h : CacheEntry) → Every P hs
    → Among h hs → P h
every_at P [] h e a = absurd a
every_at P (o ∷ os) h e (inl is) = subst P (sym is) e.0
every_at P (o ∷ os) h e (inr a) = every_at P os h e.1 a

pub every_of : (P : CacheEntry → Type 0) (hs : List CacheEntry)
    → ((h : CacheEntry) → Among h hs → P h) → Every P hs
every_of P [] f = tt
every_of P (o ∷ os) f = (f o (inl refl), every_of P os (λ h a. f h (inr a)))

-- ---- the order

pub order_total : IsTotalOrder order
order_total =
    then_total {R =
    λ (x y : CacheEntry). slice_cmp nat_cmp (shown_words x.query) (shown_words y.query)}
    {S = λ (x y : CacheEntry). nat_cmp x.number y.number}
    (record {
      antisymm = λ x y. nat_list_cmp_total.antisymm (shown_words x.query) (shown_words y.query);
      trans = λ x y z. nat_list_cmp_total.trans (shown_words x.query) (shown_words y.query)
          (shown_words z.query);
      congr = λ x y z. nat_list_cmp_total.congr (shown_words x.query) (shown_words y.query)
          (shown_words z.query);
    })
    (grind arith)

is_less : (r : Ordering) → is_lt r ≡ true → r ≡ Less
is_less r is = grind arith

before_less : (a b : CacheEntry) → is_before a b ≡ true → order a b ≡ Less
before_less a b is = is_less (order a b) is

before_then : (a b c : CacheEntry) → is_before a b ≡ true → is_before b c ≡ true
    → is_before a c ≡ true
before_then a b c ab bc =
    ap is_lt (order_total.trans a b c (before_less a b ab) (before_less b c bc))

pub before_not : (a b : CacheEntry) → is_before a b ≡ true → is_before b a ≡ false
before_not a b ab = ap is_lt (order_total.antisymm b a ∙ ap ordering_reverse (before_less a b ab))

then_second : (x y : Ordering) → ordering_then x y ≡ Equal → y ≡ Equal
then_second e y is = grind arith

not_less : (r : Ordering) → is_lt r ≡ false → (r ≡ Equal) ⊎ (r ≡ Greater)
not_less r is = grind arith

pub before_other : (a b : CacheEntry) → (a.number ≡ b.number → ⊥) → is_before a b ≡ false
    → is_before b a ≡ true
before_other a b apart not_ = elim (not_less (order a b) not_) [
  | inl equal ↦ absurd
      (apart (exact_unsigned a.number b.number
      (then_second (slice_cmp nat_cmp (shown_words a.query) (shown_words b.query))
      (nat_cmp a.number b.number) equal)))
  | inr greater ↦ ap is_lt (order_total.antisymm b a ∙ ap ordering_reverse greater)
]

-- ---- how many come before

pub rank_more : (h o : CacheEntry) (os : List CacheEntry) → is_before o h ≡ true
    → rank h (o ∷ os) ≡ rank h os + 1
rank_more h o os is = ap (λ b. cond b (rank h os + 1) (rank h os)) is

pub rank_same : (h o : CacheEntry) (os : List CacheEntry) → is_before o h ≡ false
    → rank h (o ∷ os) ≡ rank h os
rank_same h o os is = ap (λ b. cond b (rank h os + 1) (rank h os)) is

rank_within : (h : CacheEntry) (os : List CacheEntry) → rank h os ≤ length os
rank_within h [] = omega arith
rank_within h (o ∷ os) = grind (arith, common_steps, rank_within h os)

rank_below : (h : CacheEntry) (os : List CacheEntry) → Among h os → rank h os < length os
rank_below h [] a = absurd a
rank_below h (o ∷ os) (inl is) = grind (arith, rank_same, rank_within, cases_Bool, before_not)
rank_below h (o ∷ os) (inr a) = grind (arith, common_steps, rank_below h os a)

-- what comes before has no more before it
rank_grows : (a b : CacheEntry) (os : List CacheEntry) → is_before a b ≡ true
    → rank a os ≤ rank b os
rank_grows a b [] ab = omega arith
rank_grows a b (o ∷ os) ab = grind (arith, common_steps, rank_grows a b os ab, before_then o a b)

rank_less : (a b : CacheEntry) (os : List CacheEntry) → is_before a b ≡ true → Among a os
    → rank a os < rank b os
rank_less a b [] ab i = absurd i
rank_less a b (o ∷ os) ab (inl is) =
    grind (arith, rank_grows, rank_same, rank_more, cases_Bool, before_not)
rank_less a b (o ∷ os) ab (inr i) = grind (arith, before_then, rank_less a b os ab i)

-- each place has one
pub record Placed (hs : List CacheEntry) (place : ℕ) : Type 0 where
  pub one : CacheEntry
  pub among : Among one hs
  pub there : rank one hs ≡ place

placed : (hs : List CacheEntry) → Apart hs → (place : ℕ) → place < length hs → Placed hs place
placed [] apart place below = absurd (let no : ⊥ = omega (arith, below) in no)
placed (g ∷ gs) apart place below =
    let r = rank g gs in
    let w = rank_within g gs in
    let g_is = rank_same g g gs (grind (arith, cases_Bool, before_not)) in
    elim (cases_eq place r) [
      | inl same ↦ record { one = g; among = inl refl; there = g_is ∙ sym same }
      | inr other ↦ elim (cases_lt place r) [
        | inl less ↦
            let p = placed gs apart.1 place (omega (less, w, arith)) in
            grind (arith, cases_Bool, rank_grows, before_other, every_at, rank_same, before_not)
        | inr more ↦
            let p = placed gs apart.1 (place - 1) (omega (more, other, below, arith)) in
            grind (arith, cases_Bool, rank_less, before_other, every_at, rank_more)
      ]
    ]

-- ---- the place of each

pub ranked_some : (place : ℕ) (all hs : List CacheEntry) (h : CacheEntry) → Among h hs
    → rank h all ≡ place → (g : CacheEntry) × (ranked place all hs ≡ Some g)
ranked_some place all [] h a is = absurd a
ranked_some place all (o ∷ os) h a is = elim (cases_eq (rank o all) place) [
  | inl same ↦ (o, ap (λ b. cond b (Some o) (ranked place all os)) (eq-eqb (rank o all) place same))
  | inr other ↦
      let s = ranked_some place all os h (later a other) is in
      (s.0, ap (λ b. cond b (Some o) (ranked place all os)) (ne_eqb (rank o all) place other) ∙ s.1)
]
  where
    later : (h ≡ o) ⊎ Among h os → (rank o all ≡ place → ⊥) → Among h os
    later e other = grind arith

pub ranked_is : (place : ℕ) (all hs : List CacheEntry) (h : CacheEntry)
    → ranked place all hs ≡ Some h
    → Among h hs × (rank h all ≡ place)
ranked_is place all [] h is = absurd (let no : ⊥ = cc in no)
ranked_is place all (o ∷ os) h is = elim (cases_eq (rank o all) place) [
  | inl same ↦
      let e = same_Some o h
      (sym (ap (λ b. cond b (Some o) (ranked place all os)) (eq-eqb (rank o all) place same))
      ∙ is) in
      (inl (sym e), ap (λ x. rank x all) (sym e) ∙ same)
  | inr other ↦
      let r = ranked_is place all os h
      (sym (ap (λ b. cond b (Some o) (ranked place all os)) (ne_eqb (rank o all) place other))
      ∙ is) in
      (inr r.0, r.1)
]

same_numbered : (hs : List CacheEntry) (a b : CacheEntry) → Apart hs → Among a hs → Among b hs
    → a.number ≡ b.number → a ≡ b
same_numbered [] a b apart i j e = absurd i
same_numbered (o ∷ os) a b apart (inl x) (inl y) e = x ∙ sym y
same_numbered (o ∷ os) a b apart (inl x) (inr j) e = grind (arith, every_at)
same_numbered (o ∷ os) a b apart (inr i) (inl y) e = grind (arith, every_at)
same_numbered (o ∷ os) a b apart (inr i) (inr j) e = same_numbered os a b apart.1 i j e

pub same_ranked : (hs : List CacheEntry) (a b : CacheEntry) → Apart hs → Among a hs → Among b hs
    → rank a hs ≡ rank b hs → a ≡ b
same_ranked hs a b apart i j e =
    grind (arith, cases_eq, same_numbered, cases_Bool, rank_less, before_other)

pub no_place : (hs : List CacheEntry) (place : ℕ) → length hs ≤ place
    → held_in_place place hs ≡ None
no_place hs place beyond = none (held_in_place place hs) refl
  where
    none : (o : Option CacheEntry) → held_in_place place hs ≡ o → o ≡ None
    none None is = refl
    none (Some h) is =
        let r = ranked_is place hs hs h is in
        let b = rank_below h hs r.0 in
        let e = r.1 in
        absurd (let no : ⊥ = omega (b, e, beyond, arith) in no)

in_order : (hs : List CacheEntry) → Apart hs → InOrder hs
in_order hs apart = record {
  filled = λ place below. let p = placed hs apart place below in
      ranked_some place hs hs p.one p.among p.there;
  beyond = no_place hs;
  listed = every_of _ hs (λ h a. listed_at h a);
  sorted = λ p q g h less gs hs_. sorted_at p q g h less gs hs_;
}
  where
    listed_at : (h : CacheEntry) → Among h hs → held_in_place (rank h hs) hs ≡ Some h
    listed_at h a =
        let s = ranked_some (rank h hs) hs hs h a refl in
        let r = ranked_is (rank h hs) hs hs s.0 s.1 in
        s.1 ∙ ap Some (same_ranked hs s.0 h apart r.0 a r.1)

    sorted_at : (p q : ℕ) (g h : CacheEntry) → p < q → held_in_place p hs ≡ Some g
        → held_in_place q hs ≡ Some h
        → is_before g h ≡ true
    sorted_at p q g h less g_is h_is =
        let a = ranked_is p hs hs g g_is in
        let b = ranked_is q hs hs h h_is in
        grind (arith, cases_Bool, cases_eq, same_numbered, rank_less, before_other)

-- ---- what is held has numbers apart

apart_more : (hs : List CacheEntry) (h : CacheEntry) → Apart hs
    → Every (λ o. o.number < h.number) hs → Apart (hs ++ h ∷ [])
apart_more [] h apart less = (tt, tt)
apart_more (o ∷ os) h apart less = grind (arith, every_append, apart_more os h apart.1 less.1)

held_numbers : (open_of : ℕ → Option Words) (left_of : ℕ → Bool) (vs : List Value)
    → Every (λ h. h.number ≤ length vs) (held_by open_of left_of vs)
held_numbers open_of left_of [] = tt
held_numbers open_of left_of (v ∷ vs) =
    every_append _ (held_by open_of left_of vs) _
    (every_weaker _ _ (held_by open_of left_of vs) (λ h w. omega (w, arith))
    (held_numbers open_of left_of vs))
    (one (open_of (length vs + 1)) (left_of (length vs + 1)))
  where
    one : (o : Option Words) (gone : Bool)
        → Every (λ h. h.number ≤ length (v ∷ vs)) (hold o gone v (length vs + 1))
    one o gone = grind arith

pub held_apart : (open_of : ℕ → Option Words) (left_of : ℕ → Bool) (vs : List Value)
    → Apart (held_by open_of left_of vs)
held_apart open_of left_of [] = tt
held_apart open_of left_of (v ∷ vs) =
    one (open_of (length vs + 1)) (left_of (length vs + 1)) (held_apart open_of left_of vs)
  where
    one : (o : Option Words) (gone : Bool) → Apart (held_by open_of left_of vs)
        → Apart (held_by open_of left_of vs ++ hold o gone v (length vs + 1))
    one o gone apart = grind (arith, append-nil, apart_more, every_weaker, held_numbers)

pub held_in_order : HeldInOrder
held_in_order s log =
    in_order (held s log) (held_apart (open_fetch s log) (left s log) (replies s.mode Main log))
