-- Lists of marks, what is among them and what a filter leaves.
use Rattle.std.proofs.Common.{◌≡◌, ◌==◌, ◌<◌, ◌++◌, ◌⊎◌, ℕ, List, [], ◌∷◌, Bool, true, false, cond}
use Rattle.std.proofs.Common.{Option, Some, None, sym, ◌∙◌, refl, inl, inr, subst, arith, eq-eqb}
use Rattle.std.specs.List.{filter}
use Rattle.std.specs.Bool.{OnTrue}
use Rattle.std.specs.Option.{is_some, option_or}
use Rattle.std.proofs.lemmas.Bool.{eqb-true}
use Rattle.std.proofs.lemmas.Grind.{common_steps}
use Rattle.fill_mark.specs.declared.marks.Mark.{Mark}
use Rattle.fill_mark.specs.Marks.{query_marked}
use Rattle.fill_mark.specs.Tables.{Among}

or_right : {P Q R : Type 0} → (Q → R) → P ⊎ Q → P ⊎ R
or_right f e = grind arith

-- ---- what is among a list

pub among_filter : (p : Mark → Bool) (m : Mark) (ms : List Mark) → Among m (filter p ms)
    → Among m ms
among_filter p m [] a = a
among_filter p m (o ∷ os) a =
    elim (p o) as (λ b. Among m (cond b (o ∷ filter p os) (filter p os)) → Among m (o ∷ os)) [
      | true ↦ λ x. or_right (among_filter p m os) x
      | false ↦ λ x. inr (among_filter p m os x)
    ] a

pub passes : (p : Mark → Bool) (m : Mark) (ms : List Mark) → Among m (filter p ms) → p m ≡ true
passes p m [] a = absurd a
passes p m (o ∷ os) a = by (passes p m os) (p o) refl a
  where
    by : (Among m (filter p os) → p m ≡ true) → (b : Bool) → p o ≡ b
        → Among m (cond b (o ∷ filter p os) (filter p os)) → p m ≡ true
    by rest b e h = grind arith

pub among_either : (m : Mark) (xs ys : List Mark) → Among m (xs ++ ys) → Among m xs ⊎ Among m ys
among_either m [] ys a = inr a
among_either m (x ∷ xs) ys (inl e) = inl (inl e)
among_either m (x ∷ xs) ys (inr a) = grind (arith, among_either m xs ys a)

-- ---- filters

pub filter_keeps : (p : Mark → Bool) (ms : List Mark) → ((m : Mark) → Among m ms → p m ≡ true)
    → filter p ms ≡ ms
filter_keeps p [] all = refl
filter_keeps p (o ∷ os) all = grind (arith, filter_keeps p os (λ m a. all m (inr a)))

pub filter_alike : (p q : Mark → Bool) (ms : List Mark)
    → ((m : Mark) → Among m ms → p m ≡ q m) → filter p ms ≡ filter q ms
filter_alike p q [] e = refl
filter_alike p q (o ∷ os) e = grind (arith, filter_alike p q os (λ m a. e m (inr a)))

-- what another filter took would not have passed
pub filter_twice : (p r : Mark → Bool) (ms : List Mark)
    → ((m : Mark) → Among m ms → r m ≡ false → p m ≡ false)
    → filter p (filter r ms) ≡ filter p ms
filter_twice p r [] h = refl
filter_twice p r (o ∷ os) h = grind (arith, filter_twice p r os (λ m a. h m (inr a)))

-- ---- marks by number

pub marked_append : (n : ℕ) (xs ys : List Mark) (q : List (List ℕ))
    → query_marked n xs ≡ Some q → query_marked n (xs ++ ys) ≡ Some q
marked_append n [] ys q e = cc
marked_append n (x ∷ xs) ys q e = grind (arith, common_steps, marked_append n xs ys q)

pub marked_behind : (n : ℕ) (xs ys : List Mark) → query_marked n xs ≡ None
    → query_marked n (xs ++ ys) ≡ query_marked n ys
marked_behind n [] ys e = refl
marked_behind n (x ∷ xs) ys e = grind (arith, common_steps, marked_behind n xs ys)

pub mark_is : (n : ℕ) (q : List (List ℕ)) (o : Mark) → o.number ≡ n → o.query ≡ q
    → ◌≡◌ {A = Mark} (record { number = n; query = q }) o
mark_is n q o e f = λ i. record { number = sym e i; query = sym f i }

-- what is found by number is among the marks
pub marked_one : (n : ℕ) (ms : List Mark) (q : List (List ℕ)) → query_marked n ms ≡ Some q
    → Among (record { number = n; query = q }) ms
marked_one n [] q e = cc
marked_one n (o ∷ os) q e = by (marked_one n os q) (o.number == n) refl e
  where
    by : (query_marked n os ≡ Some q → Among (record { number = n; query = q }) os)
        → (b : Bool) → (o.number == n) ≡ b
        → cond b (Some o.query) (query_marked n os) ≡ Some q
        → Among (record { number = n; query = q }) (o ∷ os)
    by rest b t h = grind (arith, mark_is, eqb-true)

pub marked_some : (m : Mark) (ms : List Mark) → Among m ms
    → is_some (query_marked m.number ms) ≡ true
marked_some m [] a = absurd a
marked_some m (o ∷ os) a = by (marked_some m os) (o.number == m.number) refl a
  where
    by : (Among m os → is_some (query_marked m.number os) ≡ true) → (b : Bool)
        → (o.number == m.number) ≡ b → Among m (o ∷ os)
        → is_some (cond b (Some o.query) (query_marked m.number os)) ≡ true
    by rest b t e = grind (arith, eq-eqb)

-- ---- each mark is found by its number

abbrev pub EachFound : List Mark → Type 0
EachFound ms = (m : Mark) → Among m ms → query_marked m.number ms ≡ Some m.query

pub found_filter : (p : Mark → Bool) (ms : List Mark) → EachFound ms → EachFound (filter p ms)
found_filter p ms each m a =
    by (query_marked m.number (filter p ms)) refl (marked_some m (filter p ms) a)
  where
    by : (o : Option (List (List ℕ))) → query_marked m.number (filter p ms) ≡ o
        → is_some o ≡ true → o ≡ Some m.query
    by None e s = cc
    by (Some q) e s =
        sym (each (record { number = m.number; query = q })
        (among_filter p _ ms (marked_one m.number (filter p ms) q e)))
        ∙ each m (among_filter p m ms a)

-- no mark has a greater number
pub none_above : (n : ℕ) (ms : List Mark) → ((m : Mark) → Among m ms → m.number < n)
    → query_marked n ms ≡ None
none_above n [] below = refl
none_above n (o ∷ os) below = grind (
  arith,
  common_steps,
  below o (inl refl),
  none_above n os (λ m a. below m (inr a)),
)

pub found_more : (n : ℕ) (q : List (List ℕ)) (ms : List Mark) → EachFound ms
    → ((m : Mark) → Among m ms → m.number < n)
    → EachFound (ms ++ record { number = n; query = q } ∷ [])
found_more n q ms each below m a = by (among_either m ms (record { number = n; query = q } ∷ []) a)
  where
    last : query_marked n (ms ++ record { number = n; query = q } ∷ []) ≡ Some q
    last = grind (arith, marked_behind, none_above, eq-eqb)

    by : Among m ms ⊎ Among m (record { number = n; query = q } ∷ [])
        → query_marked m.number (ms ++ record { number = n; query = q } ∷ []) ≡ Some m.query
    by e = grind (arith, marked_append, last)

pub below_as : (n : ℕ) (ms os : List Mark) → ms ≡ os → (b : Bool)
    → OnTrue b ((m : Mark) → Among m ms → m.number < n)
    → OnTrue b ((m : Mark) → Among m os → m.number < n)
below_as n ms os e b below = subst (λ l. OnTrue b ((m : Mark) → Among m l → m.number < n)) e below

-- ---- two lists

pub marked_or : (n : ℕ) (xs ys : List Mark)
    → query_marked n (xs ++ ys) ≡ option_or (query_marked n xs) (query_marked n ys)
marked_or n [] ys = refl
marked_or n (x ∷ xs) ys = grind (arith, common_steps, marked_or n xs ys)
