-- A tree of queries by number, and the list of marks that it stands for.
use Rattle.std.proofs.Common.{◌≡◌, ◌==◌, ◌<◌, ◌++◌, ℕ, suc, List, [], ◌∷◌, Bool, true, false, cond}
use Rattle.std.proofs.Common.{not, sym, ap, ◌∙◌, refl, inl, inr, map, arith, nat_lt, subst, eq-eqb}
use Rattle.std.proofs.Common.{ne_eqb}
use Rattle.std.specs.Bool.{OnTrue}
use Rattle.std.specs.List.{filter, AllByRecursion, All}
use Rattle.std.specs.List.Sorted.{IsStrictlySortedBy}
use Rattle.std.specs.Map.{lookup, remove_entry, keys_of}
use Rattle.std.specs.BTreeMap.{insert_entry}
use Rattle.std.specs.Ordering.{nat_cmp, is_eq, is_lt, match_ordering}
use Rattle.std.specs.Cmp.{nat_cmp_is}
use Rattle.std.specs.declared.cmp.Ordering.TheVariants.{Less, Greater}
use Rattle.std.proofs.lemmas.Bool.{cases_eq, cases_lt, cases_Bool, eqb-true, ltb-true}
use Rattle.std.proofs.lemmas.Grind.{common_steps}
use Rattle.command_words.specs.Queries.{same_query}
use Rattle.fill_mark.specs.declared.marks.Mark.{Mark}
use Rattle.fill_mark.specs.Marks.{query_marked, without_number, without_query}
use Rattle.fill_mark.specs.Tables.{Among, mark_of}
use Rattle.fill_mark.proofs.Amongst.{filter_keeps}

abbrev Entries : Type 0
Entries = List (ℕ × List (List ℕ))

abbrev pub at_number : ℕ → ℕ → Bool
at_number n k = is_eq (nat_cmp n k)

-- the test of a look-up is that of the numbers
tie : (n k : ℕ) → at_number n k ≡ (k == n)
tie n k = grind (arith, cases_eq, eq-eqb, cases_lt, ne_eqb)

pub found_entry : (n : ℕ) (es : Entries)
    → lookup (at_number n) es ≡ query_marked n (map mark_of es)
found_entry n [] = refl
found_entry n (e ∷ es) = grind (arith, tie, found_entry n es)

-- behind a number there are greater ones
above : (n : ℕ) (es : Entries) → AllByRecursion (λ k. nat_cmp n k ≡ Less) (keys_of es)
    → (m : Mark) → Among m (map mark_of es) → not (m.number == n) ≡ true
above n [] all m a = absurd a
above n (e ∷ es) all m (inl same) = grind (arith, tie)
above n (e ∷ es) all m (inr a) = above n es all.1 m a

pub removed_entry : (n : ℕ) (es : Entries) → IsStrictlySortedBy nat_cmp (keys_of es)
    → map mark_of (remove_entry (at_number n) es) ≡ without_number n (map mark_of es)
unfolding IsStrictlySortedBy
removed_entry n [] up = refl
removed_entry n (e ∷ es) up = elim (cases_Bool (e.0 == n)) [
  | inl t ↦
      ap (λ b. map mark_of (cond b es (e ∷ remove_entry (at_number n) es))) (tie n e.0 ∙ t)
      ∙ sym (ap (λ b. cond (not b) (mark_of e ∷ without_number n (map mark_of es))
      (without_number n (map mark_of es))) t
      ∙ filter_keeps (λ m. not (m.number == n)) (map mark_of es)
      (λ m a. ap (λ k. not (m.number == k)) (sym (eqb-true e.0 n t)) ∙ above e.0 es up.0 m a))
  | inr f ↦
      ap (λ b. map mark_of (cond b es (e ∷ remove_entry (at_number n) es))) (tie n e.0 ∙ f)
      ∙ ap (λ l. mark_of e ∷ l) (removed_entry n es up.1)
      ∙ sym (ap (λ b. cond (not b) (mark_of e ∷ without_number n (map mark_of es))
      (without_number n (map mark_of es))) f)
]

-- a number above all others goes last
pub inserted_last : (n : ℕ) (q : List (List ℕ)) (es : Entries)
    → ((m : Mark) → Among m (map mark_of es) → m.number < n)
    → map mark_of (insert_entry nat_cmp es n q)
    ≡ map mark_of es ++ record { number = n; query = q } ∷ []
inserted_last n q [] below = refl
inserted_last n q (e ∷ es) below =
    ap (λ o. map mark_of (match_ordering o ((n, q) ∷ e ∷ es) ((e.0, q) ∷ es)
    (e ∷ insert_entry nat_cmp es n q)))
    (sym (nat_cmp_is n e.0 Greater (below (mark_of e) (inl refl))))
    ∙ ap (λ l. mark_of e ∷ l) (inserted_last n q es (λ m a. below m (inr a)))

at_key : (P : ℕ → Type 0) (es : Entries) → All P (keys_of es) → (m : Mark)
    → Among m (map mark_of es) → P m.number
at_key P [] all m a = absurd a
at_key P (e ∷ es) all m (inl same) =
    let first : P e.0 = all 0 0 (omega arith) in
    rw (ap (λ (z : Mark). z.number) same) first
at_key P (e ∷ es) all m (inr a) =
    at_key P es (λ k d lt. all (suc k) d (omega (arith, lt))) m a

-- the greatest number is below this one, and so are all
pub below_last : (last n : ℕ) (es : Entries)
    → All (λ k. is_lt (nat_cmp last k) ≡ false) (keys_of es) → last < n → (m : Mark)
    → Among m (map mark_of es) → m.number < n
below_last last n es all lt m a = elim (cases_lt m.number n) [
  | inl below ↦ below
  | inr ge ↦
      let up : last < m.number = omega (arith, ge, lt) in
      let no : true ≡ false =
      ap is_lt (nat_cmp_is last m.number Less up)
      ∙ at_key (λ k. is_lt (nat_cmp last k) ≡ false) es all m a in
      cc
]

pub if_below : (last n : ℕ) (es : Entries)
    → All (λ k. is_lt (nat_cmp last k) ≡ false) (keys_of es) → (ms : List Mark)
    → map mark_of es ≡ ms
    → OnTrue (nat_lt last n) ((m : Mark) → Among m ms → m.number < n)
if_below last n es all ms view = by (nat_lt last n) refl
  where
    by : (b : Bool) → nat_lt last n ≡ b → OnTrue b ((m : Mark) → Among m ms → m.number < n)
    by true e =
        λ m a. below_last last n es all (ltb-true last n e) m (subst (Among m) (sym view) a)
    by false e = tt

pub filtered_entries : (q : List (List ℕ)) (es : Entries)
    → map mark_of (filter (λ e. not (same_query e.1 q)) es) ≡ without_query q (map mark_of es)
filtered_entries q [] = refl
filtered_entries q (e ∷ es) = grind (arith, common_steps, filtered_entries q es)
