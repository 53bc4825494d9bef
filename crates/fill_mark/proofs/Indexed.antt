-- Marks that are found by number and by key: what a step leaves of them, and that the rest is
-- found as before.
use Rattle.std.proofs.Common.{◌≡◌, ◌==◌, ◌<◌, ◌++◌, ◌⊎◌, ℕ, List, [], ◌∷◌, Bool, true, false, cond}
use Rattle.std.proofs.Common.{not, Option, Some, None, sym, ap, ◌∙◌, refl, inl, inr, arith, eq-eqb}
use Rattle.std.proofs.Common.{ne_eqb}
use Rattle.std.specs.List.{filter, list_any}
use Rattle.std.specs.Option.{is_some}
use Rattle.std.specs.FinMap.{insert, remove}
use Rattle.std.specs.Str.{bytes_eq}
use Rattle.std.proofs.lemmas.Bool.{cases_Bool, eqb-true, not-false, not-true, or_cases}
use Rattle.std.proofs.lemmas.List.Elements.{filter-append}
use Rattle.std.proofs.lemmas.Slice.Eq.{bytes_eq-Decides, slice_eq-Decides}
use Rattle.std.proofs.lemmas.Grind.{common_steps}
use Rattle.command_words.specs.Queries.{key_of, same_query}
use Rattle.fill_mark.specs.declared.marks.Mark.{Mark}
use Rattle.fill_mark.specs.Marks.{query_marked, without_number, without_query, without_key}
use Rattle.fill_mark.specs.Marks.{with_mark}
use Rattle.fill_mark.specs.Tables.{Among, KeyIndex, numbers_at, is_marked, marked_among, asks}
use Rattle.fill_mark.specs.Tables.{asks_of, number_of, without_listed, AreIndexed, without_some}
use Rattle.fill_mark.proofs.Amongst.{among_filter, passes, among_either, filter_keeps, filter_alike}
use Rattle.fill_mark.proofs.Amongst.{filter_twice, marked_one, EachFound, found_filter, found_more}
use Rattle.fill_mark.proofs.Keyed.{numbers_put, numbers_taken}

abbrev Words : Type 0
Words = List (List ℕ)

abbrev is_at : ℕ → ℕ → Bool
is_at k n = n == k

clash : {P : Type 0} (b : Bool) → b ≡ true → b ≡ false → P
clash b t f = let no : true ≡ false = sym t ∙ f in absurd (let none : ⊥ = cc in none)

same_words : (p q : Words) → same_query p q ≡ true → p ≡ q
same_words p q e = (slice_eq-Decides bytes_eq-Decides p q (same_query p q) refl).0 e

words_same : (p q : Words) → p ≡ q → same_query p q ≡ true
words_same p q e = (slice_eq-Decides bytes_eq-Decides p q (same_query p q) refl).1 e

same_bytes : (a b : List ℕ) → bytes_eq a b ≡ true → a ≡ b
same_bytes a b e = (bytes_eq-Decides a b).0 e

bytes_same : (a b : List ℕ) → a ≡ b → bytes_eq a b ≡ true
bytes_same a b e = (bytes_eq-Decides a b).1 e

-- a number that is listed passes what the list has none of
any_of : (p : ℕ → Bool) (k : ℕ) (ns : List ℕ) → list_any (is_at k) ns ≡ true → p k ≡ true
    → list_any p ns ≡ true
any_of p k [] l t = cc
any_of p k (n ∷ ns) l t = grind (arith, common_steps, any_of p k ns, eqb-true n k)

listed_kept : (p : ℕ → Bool) (k : ℕ) (ns : List ℕ) → list_any (is_at k) ns ≡ true → p k ≡ true
    → list_any (is_at k) (filter p ns) ≡ true
listed_kept p k [] l t = cc
listed_kept p k (n ∷ ns) l t = grind (arith, common_steps, listed_kept p k ns, eqb-true n k)

listed_left : (k : ℕ) (ns ms : List ℕ) → list_any (is_at k) ns ≡ true
    → list_any (is_at k) (ns ++ ms) ≡ true
listed_left k [] ms l = cc
listed_left k (n ∷ ns) ms l = grind (arith, common_steps, listed_left k ns ms)

listed_last : (k : ℕ) (ns : List ℕ) → list_any (is_at k) (ns ++ k ∷ []) ≡ true
listed_last k [] = grind (arith, common_steps)
listed_last k (n ∷ ns) = grind (arith, common_steps, listed_last k ns)

other_mark : (m : Mark) (n : ℕ) → not (m.number == n) ≡ true → (n == m.number) ≡ true → ⊥
other_mark m n p e = grind (arith, clash, eq-eqb, eqb-true, not-true)

pub indexed_as : (keys now : KeyIndex) (ms os : List Mark) → now ≡ keys → os ≡ ms
    → AreIndexed keys ms → AreIndexed now os
indexed_as keys now ms os e f are = grind arith

-- ---- some marks go

pub indexed_filter : (p : Mark → Bool) (keys : KeyIndex) (ms : List Mark) → AreIndexed keys ms
    → AreIndexed keys (filter p ms)
indexed_filter p keys ms are = record {
  found = found_filter p ms are.found;
  listed = λ m a. are.listed m (among_filter p m ms a);
  apart = λ m o a b. are.apart m o (among_filter p m ms a) (among_filter p o ms b);
}

-- marks whose key is not this one stay found where its numbers go
indexed_taken : (key : List ℕ) (keys : KeyIndex) (ms : List Mark) → AreIndexed keys ms
    → ((m : Mark) → Among m ms → bytes_eq (key_of m.query) key ≡ false)
    → AreIndexed (remove keys key) ms
indexed_taken key keys ms are other = grind (arith, numbers_taken)

pub indexed_void : (key : List ℕ) (keys : KeyIndex) (ms : List Mark) → AreIndexed keys ms
    → AreIndexed (remove keys key) (without_key key ms)
indexed_void key keys ms are =
    let p : Mark → Bool = λ m. not (bytes_eq (key_of m.query) key) in
    indexed_taken key keys (without_key key ms) (indexed_filter p keys ms are)
    (λ m a. not-true _ (passes p m ms a))

-- where no number of a key is marked, none of the marks is of that key
pub indexed_settled : (key : List ℕ) (keys : KeyIndex) (ms : List Mark) → AreIndexed keys ms
    → list_any (is_marked ms) (numbers_at key keys) ≡ false → AreIndexed (remove keys key) ms
indexed_settled key keys ms are none =
    indexed_taken key keys ms are (λ m a. by m a (bytes_eq (key_of m.query) key) refl)
  where
    by : (m : Mark) → Among m ms → (b : Bool) → bytes_eq (key_of m.query) key ≡ b → b ≡ false
    by m a false e = refl
    by m a true e =
        clash (list_any (is_marked ms) (numbers_at key keys))
        (any_of (is_marked ms) m.number (numbers_at key keys)
        (ap (λ k. list_any (is_at m.number) (numbers_at k keys)) (sym (same_bytes _ key e))
        ∙ are.listed m a)
        (ap is_some (are.found m a)))
        none

-- ---- the marks of a key

-- where all marks of the key are listed, those that are listed are all
pub void_listed : (key : List ℕ) (ns : List ℕ) (ms : List Mark) → EachFound ms
    → ((m : Mark) → Among m ms → bytes_eq (key_of m.query) key ≡ true
    → list_any (is_at m.number) ns ≡ true)
    → without_listed key ns ms ≡ without_key key ms
void_listed key [] ms each all = grind (arith, filter_keeps)
  where
    by : (m : Mark) → Among m ms → (b : Bool) → bytes_eq (key_of m.query) key ≡ b → not b ≡ true
    by m a b e = grind arith
void_listed key (n ∷ ns) ms each all = elim (cases_Bool (asks_of key (query_marked n ms))) [
  | inl t ↦
      ap (λ b. without_listed key ns (cond b (without_number n ms) ms)) t
      ∙ void_listed key ns (without_number n ms) (found_filter (λ m. not (m.number == n)) ms each)
      (λ m a e. by_other m a (or_cases (n == m.number) (list_any (is_at m.number) ns)
      (all m (among_filter _ m ms a) e)))
      ∙ filter_twice (λ m. not (bytes_eq (key_of m.query) key)) (λ m. not (m.number == n)) ms
      (λ m a e. ap not (ap (asks_of key) (sym (each m a))
      ∙ ap (λ k. asks_of key (query_marked k ms)) (eqb-true m.number n (not-false _ e)) ∙ t))
  | inr f ↦
      ap (λ b. without_listed key ns (cond b (without_number n ms) ms)) f
      ∙ void_listed key ns ms each
      (λ m a e. by_number m a e f (or_cases (n == m.number) (list_any (is_at m.number) ns)
      (all m a e)))
]
  where
    by_other : (m : Mark) → Among m (without_number n ms)
        → ((n == m.number) ≡ true) ⊎ (list_any (is_at m.number) ns ≡ true)
        → list_any (is_at m.number) ns ≡ true
    by_other m a (inl e) = absurd (other_mark m n (passes (λ o. not (o.number == n)) m ms a) e)
    by_other m a (inr r) = r

    by_number : (m : Mark) → Among m ms → bytes_eq (key_of m.query) key ≡ true
        → asks_of key (query_marked n ms) ≡ false
        → ((n == m.number) ≡ true) ⊎ (list_any (is_at m.number) ns ≡ true)
        → list_any (is_at m.number) ns ≡ true
    by_number m a e f h = grind (arith, clash, eqb-true)

pub void_indexed : (key : List ℕ) (keys : KeyIndex) (ms : List Mark) → AreIndexed keys ms
    → without_listed key (numbers_at key keys) ms ≡ without_key key ms
void_indexed key keys ms are =
    void_listed key (numbers_at key keys) ms are.found
    (λ m a e. ap (λ k. list_any (is_at m.number) (numbers_at k keys)) (sym (same_bytes _ key e))
    ∙ are.listed m a)

-- ---- the mark of a query

none_listed : (q : Words) (ms : List Mark) (ns : List ℕ) → EachFound ms
    → number_of q ms ns ≡ None → (m : Mark) → Among m ms
    → list_any (is_at m.number) ns ≡ true → same_query m.query q ≡ false
none_listed q ms [] each e m a l = cc
none_listed q ms (n ∷ ns) each e m a l =
    by (none_listed q ms ns each) (asks q (query_marked n ms)) refl e
    (or_cases (n == m.number) (list_any (is_at m.number) ns) l)
  where
    by : (number_of q ms ns ≡ None → (m : Mark) → Among m ms
        → list_any (is_at m.number) ns ≡ true → same_query m.query q ≡ false)
        → (b : Bool) → asks q (query_marked n ms) ≡ b
        → cond b (Some n) (number_of q ms ns) ≡ None
        → ((n == m.number) ≡ true) ⊎ (list_any (is_at m.number) ns ≡ true)
        → same_query m.query q ≡ false
    by rest b t h e = grind (arith, eqb-true)

some_asks : (q : Words) (ms : List Mark) (ns : List ℕ) (n : ℕ) → number_of q ms ns ≡ Some n
    → asks q (query_marked n ms) ≡ true
some_asks q ms [] n e = cc
some_asks q ms (k ∷ ns) n e = grind (arith, common_steps, some_asks q ms ns n)

asked : (q : Words) (o : Option Words) → asks q o ≡ true
    → (p : Words) × (o ≡ Some p) × (same_query p q ≡ true)
asked q o e = grind arith

module _ (q : Words) (number : ℕ) (keys : KeyIndex) (ms : List Mark) (are : AreIndexed keys ms)
    (below : (m : Mark) → Among m ms → m.number < number) where
  new : Mark
  new = record { number = number; query = q }

  abbrev now : KeyIndex
  now = insert keys (key_of q)
      (marked_among ms (numbers_at (key_of q) keys) ++ number ∷ [])

  listed_query : (m : Mark) → Among m ms → same_query m.query q ≡ true
      → list_any (is_at m.number) (numbers_at (key_of q) keys) ≡ true
  listed_query m a e =
      ap (λ p. list_any (is_at m.number) (numbers_at (key_of p) keys))
      (sym (same_words m.query q e))
      ∙ are.listed m a

  without_it : (o : Option ℕ) → number_of q ms (numbers_at (key_of q) keys) ≡ o
      → without_some o (ms ++ record { number = number; query = q } ∷ [])
      ≡ with_mark number q ms
  without_it None e =
      ap (λ l. l ++ record { number = number; query = q } ∷ [])
      (sym (filter_keeps (λ m. not (same_query m.query q)) ms
      (λ m a. none m a (same_query m.query q) refl)))
    where
      none : (m : Mark) → Among m ms → (b : Bool) → same_query m.query q ≡ b → not b ≡ true
      none m a b f = grind (arith, clash, none_listed, listed_query)
  without_it (Some n) e = grind (arith, filter-append, filter_alike, alike, last)
    where
      was : (p : Words) × (query_marked n ms ≡ Some p) × (same_query p q ≡ true)
      was = asked q (query_marked n ms) (some_asks q ms (numbers_at (key_of q) keys) n e)

      old : Among (record { number = n; query = was.0 }) ms
      old = marked_one n ms was.0 was.1

      last : filter (λ (m : Mark). not (m.number == n)) (record { number = number; query = q } ∷ [])
          ≡ record { number = number; query = q } ∷ []
      last = grind (arith, old, ne_eqb)

      by_query : (m : Mark) → Among m ms → (b : Bool) → (m.number == n) ≡ b → (d : Bool)
          → same_query m.query q ≡ d → b ≡ d
      by_query m a true t true u = refl
      by_query m a false t false u = refl
      by_query m a true t false u =
          let same : m.query ≡ was.0 = grind (arith, eqb-true) in
          clash (same_query m.query q) (ap (λ p. same_query p q) same ∙ was.2) u
      by_query m a false t true u =
          clash (m.number == n)
          (eq-eqb m.number n
          (are.apart m (record { number = n; query = was.0 }) a old
          (words_same m.query was.0 (same_words m.query q u ∙ sym (same_words was.0 q was.2)))))
          t

      alike : (m : Mark) → Among m ms → (m.number == n) ≡ same_query m.query q
      alike m a = by_query m a (m.number == n) refl (same_query m.query q) refl

  -- the index with the new number serves the marks that were there too
  stays : (m : Mark) → Among m ms
      → list_any (is_at m.number) (numbers_at (key_of m.query) now) ≡ true
  stays m a =
      ap (list_any (is_at m.number)) (numbers_put keys (key_of q) (key_of m.query) _)
      ∙ by (bytes_eq (key_of m.query) (key_of q)) refl
    where
      by : (b : Bool) → bytes_eq (key_of m.query) (key_of q) ≡ b
          → list_any (is_at m.number)
          (cond b (marked_among ms (numbers_at (key_of q) keys) ++ number ∷ [])
          (numbers_at (key_of m.query) keys)) ≡ true
      by false e = are.listed m a
      by true e =
          listed_left m.number (marked_among ms (numbers_at (key_of q) keys)) (number ∷ [])
          (listed_kept (is_marked ms) m.number (numbers_at (key_of q) keys)
          (ap (λ k. list_any (is_at m.number) (numbers_at k keys)) (sym (same_bytes _ _ e))
          ∙ are.listed m a)
          (ap is_some (are.found m a)))

  comes : list_any (is_at number) (numbers_at (key_of q) now) ≡ true
  comes = grind (arith, numbers_put, bytes_same, listed_last)

  -- where no mark follows, the index is one of the same marks
  pub indexed_before : AreIndexed now ms
  indexed_before = record { found = are.found; listed = stays; apart = are.apart }

  abbrev one : List Mark
  one = record { number = number; query = q } ∷ []

  gone : (m : Mark) → Among m (without_query q ms) → same_query m.query q ≡ false
  gone m a = not-true _ (passes (λ o. not (same_query o.query q)) m ms a)

  pub indexed_with : AreIndexed now (with_mark number q ms)
  indexed_with = record {
    found = found_more number q (without_query q ms)
        (found_filter (λ m. not (same_query m.query q)) ms are.found)
        (λ m a. below m (among_filter _ m ms a));
    listed = λ m a. listed_either m (among_either m (without_query q ms) one a);
    apart = λ m o a b. apart_either m o (among_either m (without_query q ms) one a)
        (among_either o (without_query q ms) one b);
  }
    where
      listed_either : (m : Mark) → Among m (without_query q ms) ⊎ Among m one
          → list_any (is_at m.number) (numbers_at (key_of m.query) now) ≡ true
      listed_either m e = grind (arith, stays, among_filter, comes)

      apart_either : (m o : Mark) → Among m (without_query q ms) ⊎ Among m one
          → Among o (without_query q ms) ⊎ Among o one → same_query m.query o.query ≡ true
          → m.number ≡ o.number
      apart_either m o e h s = grind (arith, among_filter, clash, gone, words_same, same_words)

  pub older_goes : (o : Option ℕ) → number_of q ms (numbers_at (key_of q) keys) ≡ o
      → (new_marks : List Mark) → new_marks ≡ without_some o (ms ++ one)
      → new_marks ≡ with_mark number q ms
  older_goes o e new_marks is = is ∙ without_it o e
