-- How the marks change with the fetches.
use Rattle.std.proofs.Common.{◌≡◌, ◌<◌, ◌≤◌, ◌++◌, ℕ, zero, suc, List, [], ◌∷◌, Bool, cond, not}
use Rattle.std.proofs.Common.{Option, Some, None, sym, ap, ◌∙◌, refl, arith, inl, inr}
use Rattle.std.specs.Prelude.{nat_lt}
use Rattle.std.specs.List.{filter}
use Rattle.std.proofs.lemmas.List.Elements.{filter-append}
use Rattle.std.proofs.lemmas.Bool.{cases_eq, cases_lt, lt-ltb, le-ltb}
use Rattle.std.proofs.lemmas.Grind.{common_steps}
use Rattle.command_words.specs.Queries.{key_of}
use Rattle.fill_mark.specs.declared.marks.Mark.{Mark}
use Rattle.fill_mark.specs.Marks.{query_marked, without_number}
use Rattle.shared_cache.specs.Held.{Key, Words, unless}
use Rattle.shared_cache.specs.ClientFields.{fetch_mark, marks_by}

-- some marks stay
pub marks_filter : (open_of open_new : ℕ → Option Words) (p : Mark → Bool) (replied n : ℕ)
    → ((m : ℕ) → m ≤ n → fetch_mark m (open_new m) ≡ filter p (fetch_mark m (open_of m)))
    → marks_by open_new replied n ≡ filter p (marks_by open_of replied n)
marks_filter open_of open_new p replied zero each = refl
marks_filter open_of open_new p replied (suc n) each = grind (
  arith,
  filter-append,
  marks_filter open_of open_new p replied n (λ m le. each m (omega arith)),
)

pub marks_same : (open_of open_new : ℕ → Option Words) (replied n : ℕ)
    → ((m : ℕ) → m ≤ n → open_new m ≡ open_of m)
    → marks_by open_new replied n ≡ marks_by open_of replied n
marks_same open_of open_new replied zero each = refl
marks_same open_of open_new replied (suc n) each =
    grind (arith, marks_same open_of open_new replied n (λ m le. each m (omega arith)))

-- the marks are those of the numbers above one
pub marks_above : (open_of open_new : ℕ → Option Words) (replied n : ℕ)
    → ((m : ℕ) → replied < m → open_new m ≡ open_of m)
    → marks_by open_new replied n ≡ marks_by open_of replied n
marks_above open_of open_new replied zero each = refl
marks_above open_of open_new replied (suc n) each =
    (λ i. marks_above open_of open_new replied n each i ++ above i)
  where
    above : cond (nat_lt replied (suc n)) (fetch_mark (suc n) (open_new (suc n))) []
        ≡ cond (nat_lt replied (suc n)) (fetch_mark (suc n) (open_of (suc n))) []
    above = elim (cases_lt replied (suc n)) [
      | inl lt ↦
          ap (λ o. cond (nat_lt replied (suc n)) (fetch_mark (suc n) o) []) (each (suc n) lt)
      | inr ge ↦
          ap (λ b. cond b (fetch_mark (suc n) (open_new (suc n))) []) (le-ltb replied (suc n) ge)
          ∙ sym (ap (λ b. cond b (fetch_mark (suc n) (open_of (suc n))) [])
          (le-ltb replied (suc n) ge))
    ]

pub marks_none : (replied n : ℕ) → marks_by (λ m. None) replied n ≡ []
marks_none replied zero = refl
marks_none replied (suc n) = grind (arith, marks_none replied n)

pub mark_unless : (t : Key → Bool) (n : ℕ) (o : Option Words)
    → fetch_mark n (unless t o) ≡ filter (λ m. not (t (key_of m.query))) (fetch_mark n o)
mark_unless t n o = grind arith

-- ---- the mark of the next reply

-- the last part of the marks, where the next number goes
last_next : (open_of : ℕ → Option Words) (replied n : ℕ)
    → cond (nat_lt (suc replied) (suc n)) (fetch_mark (suc n) (open_of (suc n))) []
    ≡ without_number (suc replied)
    (cond (nat_lt replied (suc n)) (fetch_mark (suc n) (open_of (suc n))) [])
last_next open_of replied n = grind arith

pub marks_next : (open_of : ℕ → Option Words) (replied n : ℕ)
    → marks_by open_of (suc replied) n ≡ without_number (suc replied) (marks_by open_of replied n)
marks_next open_of replied zero = refl
marks_next open_of replied (suc n) =
    grind (arith, last_next, filter-append, marks_next open_of replied n)

-- ---- finding a mark

abbrev or_else : Option Words → Option Words → Option Words
or_else None o = o
or_else (Some q) o = Some q

found_in : (n : ℕ) (xs ys : List Mark)
    → query_marked n (xs ++ ys) ≡ or_else (query_marked n xs) (query_marked n ys)
found_in n [] ys = refl
found_in n (m ∷ xs) ys = grind (arith, common_steps, found_in n xs ys)

not_here : (n k : ℕ) (o : Option Words) (b : Bool) → (k ≡ n → ⊥)
    → query_marked n (cond b (fetch_mark k o) []) ≡ None
not_here n k o b ne = grind arith

none_past : (open_of : ℕ → Option Words) (replied n m : ℕ) → n < m
    → query_marked m (marks_by open_of replied n) ≡ None
none_past open_of replied zero m lt = refl
none_past open_of replied (suc n) m lt =
    grind (arith, found_in, not_here, none_past open_of replied n m (omega arith))

none_else : (o : Option Words) → or_else o None ≡ o
none_else o = grind arith

-- the mark of a number without a reply stands exactly where its fetch is open
pub marks_find : (open_of : ℕ → Option Words) (replied n m : ℕ) → replied < m → m ≤ n
    → query_marked m (marks_by open_of replied n) ≡ open_of m
marks_find open_of replied zero m lt le = absurd (omega arith)
marks_find open_of replied (suc n) m lt le =
    found_in m (marks_by open_of replied n)
    (cond (nat_lt replied (suc n)) (fetch_mark (suc n) (open_of (suc n))) [])
    ∙ elim (cases_eq m (suc n)) [
      | inl e ↦ grind (arith, or_else, none_past, lt-ltb)
      | inr ne ↦
          (λ i. or_else (marks_find open_of replied n m lt (omega arith) i)
          (not_here m (suc n) (open_of (suc n)) (nat_lt replied (suc n)) (λ e. ne (sym e)) i))
          ∙ none_else (open_of m)
    ]
