-- The ages of each connection cover what it holds, as the rows change.
use Rattle.std.proofs.Common.{◌≡◌, ◌==◌, ◌||◌, ◌<◌, ℕ, List, [], ◌∷◌, Bool, true, false, cond, sym}
use Rattle.std.proofs.Common.{ap}
use Rattle.std.proofs.Common.{◌∙◌, refl, Option, Some, None, eq-eqb, inl, inr, length, arith}
use Rattle.std.specs.Str.{bytes_eq}
use Rattle.std.specs.Map.{keys_of, lookup, set_value}
use Rattle.std.specs.Ordering.{nat_cmp}
use Rattle.std.specs.List.Sorted.{IsStrictlySortedBy}
use Rattle.std.proofs.lemmas.Bool.{cases_Bool, eqb-true}
use Rattle.track_table.specs.declared.table.Held.{Held}
use Rattle.track_table.specs.Table.{freed_of, holders_of}
use Rattle.track_table.specs.Order.{AreOrdered, HasNo}
use Rattle.track_table.specs.Aged.{AllBelow, IsWritten, age_of, grown, rows_of}
use Rattle.track_table.specs.Marks.{IsIn, IsOut}
use Rattle.track_table.specs.Holdings.{Covers, HoldsLess, Keeps, KeepsBut, KeepsOthers, Sets, has}
use Rattle.track_table.specs.Holdings.{has_age, holds_at, is_held_by}
use Rattle.track_table.proofs.Aged.{Entries, at_age, here, no_holders, row_at}
use Rattle.track_table.proofs.Marked.{below_none, same_age, set_else}
use Rattle.track_table.proofs.Orders.{apart}
use Rattle.track_table.proofs.Parts.{held_by, left_any, left_none, with_any}
use Rattle.track_table.proofs.Releases.{itself}

pub or_true : (t b : Bool) → b ≡ true → cond t true b ≡ true
or_true true b e = refl
or_true false b e = e

pub or_false : (t b : Bool) → b ≡ false → cond t false b ≡ false
or_false true b e = refl
or_false false b e = e

pub not_age : (a age : ℕ) → (a ≡ age → ⊥) → at_age age a ≡ false
not_age a age other = by (at_age age a) refl
  where
    by : (t : Bool) → at_age age a ≡ t → t ≡ false
    by true e = absurd (other (sym (same_age age a e)))
    by false e = refl

-- ---- what is held at an age

set_here : (a : ℕ) (w r : Held) (es : Entries) → lookup (at_age a) es ≡ Some r
    → lookup (at_age a) (set_value (at_age a) es w) ≡ Some w
set_here a w r [] there = absurd (let no : ⊥ = cc in no)
set_here a w r (e ∷ es) there =
    elim (at_age a e.0) as (λ t. at_age a e.0 ≡ t
    → cond t (Some e.1) (lookup (at_age a) es) ≡ Some r
    → lookup (at_age a) (cond t ((e.0, w) ∷ es) (e ∷ set_value (at_age a) es w)) ≡ Some w) [
      | true ↦ λ t f. ap (λ b. cond b (Some w) (lookup (at_age a) es)) t
      | false ↦ λ t f.
          ap (λ b. cond b (Some e.1) (lookup (at_age a) (set_value (at_age a) es w))) t
          ∙ set_here a w r es f
    ] refl there

module _ (a : ℕ) (r : Held) (es es2 : Entries) (change : Held → Held)
    (there : lookup (at_age a) es ≡ Some r) (new : IsWritten a change es es2) where
  pub changed_at : (b : ℕ) → lookup (at_age b) es2
      ≡ cond (at_age a b) (Some (change r)) (lookup (at_age b) es)
  changed_at b = ap (lookup (at_age b)) (new r there) ∙ by (at_age a b) refl
    where
      by : (t : Bool) → at_age a b ≡ t → lookup (at_age b) (set_value (at_age a) es (change r))
          ≡ cond t (Some (change r)) (lookup (at_age b) es)
      by true e =
          ap (λ n. lookup (at_age n) (set_value (at_age a) es (change r))) (sym (same_age a b e))
          ∙ set_here a (change r) r es there
      by false e = set_else a b (change r) es e

module _ (id a : ℕ) (r : Held) (es es2 : Entries) (there : lookup (at_age a) es ≡ Some r) where
  pub freed_less : IsWritten a (freed_of id) es es2 → HoldsLess es es2
  freed_less new i b h =
      by (at_age a b) refl
      (sym (ap (is_held_by i) (changed_at a r es es2 (freed_of id) there new b)) ∙ h)
    where
      by : (t : Bool) → at_age a b ≡ t
          → is_held_by i (cond t (Some (freed_of id r)) (lookup (at_age b) es)) ≡ true
          → is_held_by i (lookup (at_age b) es) ≡ true
      by true e f =
          ap (λ n. is_held_by i (lookup (at_age n) es)) (sym (same_age a b e))
          ∙ ap (is_held_by i) there ∙ left_any i id r.holders f
      by false e f = f

  pub freed_none : IsWritten a (freed_of id) es es2 → holds_at id a es2 ≡ false
  freed_none new =
      ap (is_held_by id) (changed_at a r es es2 (freed_of id) there new a
      ∙ ap (λ t. cond t (Some (freed_of id r)) (lookup (at_age a) es)) (here a))
      ∙ left_none id r.holders

  pub grown_more : IsWritten a (grown id) es es2 → (i b : ℕ) → holds_at i b es2 ≡ true
      → (i ≡ id → b ≡ a → ⊥) → holds_at i b es ≡ true
  grown_more new i b h other =
      by (at_age a b) refl
      (sym (ap (is_held_by i) (changed_at a r es es2 (grown id) there new b)) ∙ h)
    where
      by : (t : Bool) → at_age a b ≡ t
          → is_held_by i (cond t (Some (grown id r)) (lookup (at_age b) es)) ≡ true
          → is_held_by i (lookup (at_age b) es) ≡ true
      by true e f =
          ap (λ n. is_held_by i (lookup (at_age n) es)) (sym (same_age a b e))
          ∙ ap (is_held_by i) there ∙ elim (cases_Bool (i == id)) [
            | inl same ↦ absurd (other (eqb-true i id same) (sym (same_age a b e)))
            | inr apart ↦ with_any i id r.holders apart f
          ]
      by false e f = f

pub in_more : (id a : ℕ) (row : Held) (es es2 : Entries) → row.holders ≡ id ∷ []
    → IsIn a row es es2 → (i b : ℕ) → holds_at i b es2 ≡ true → (i ≡ id → b ≡ a → ⊥)
    → holds_at i b es ≡ true
in_more id a row es es2 own more i b h other =
    by (at_age a b) refl (sym (ap (is_held_by i) (more b)) ∙ h)
  where
    by : (t : Bool) → at_age a b ≡ t
        → is_held_by i (cond t (Some row) (lookup (at_age b) es)) ≡ true
        → is_held_by i (lookup (at_age b) es) ≡ true
    by true e f = absurd (at (id == i) refl (sym (ap (held_by i) own) ∙ f))
      where
        at : (t : Bool) → (id == i) ≡ t → (t || false) ≡ true → ⊥
        at true same g = other (sym (eqb-true id i same)) (sym (same_age a b e))
        at false same g = let no : ⊥ = cc in no
    by false e f = f

module _ (a : ℕ) (es es2 : Entries) (out : IsOut a es es2) where
  pub out_less : HoldsLess es es2
  out_less i b h = by (at_age a b) (sym (ap (is_held_by i) (out b)) ∙ h)
    where
      by : (t : Bool) → is_held_by i (cond t None (lookup (at_age b) es)) ≡ true
          → is_held_by i (lookup (at_age b) es) ≡ true
      by true f = absurd (let no : ⊥ = cc in no)
      by false f = f

  pub out_none : (i : ℕ) → holds_at i a es2 ≡ false
  out_none i = ap (is_held_by i) (out a ∙ ap (λ t. cond t None (lookup (at_age a) es)) (here a))

-- ---- what covers it

module _ (sets sets2 : Sets) (es es2 : Entries) (covered : Covers sets es) where
  pub cover_more : (id a : ℕ) → Keeps sets sets2 → has id a sets2 ≡ true
      → ((i b : ℕ) → holds_at i b es2 ≡ true → (i ≡ id → b ≡ a → ⊥) → holds_at i b es ≡ true)
      → Covers sets2 es2
  cover_more id a kept own more i b h = by (i == id) refl (b == a) refl
    where
      by : (s : Bool) → (i == id) ≡ s → (t : Bool) → (b == a) ≡ t → has i b sets2 ≡ true
      by true s true t =
          (λ k. has (eqb-true i id s k) (eqb-true b a t k) sets2) ∙ own
      by false s t' t = kept i b (covered i b (more i b h (λ x y.
          let n = eq-eqb i id x in let no : ⊥ = cc in no)))
      by true s false t = kept i b (covered i b (more i b h (λ x y.
          let n = eq-eqb b a y in let no : ⊥ = cc in no)))

  pub cover_but : (id a : ℕ) → HoldsLess es es2 → holds_at id a es2 ≡ false
      → KeepsBut id a sets sets2 → Covers sets2 es2
  cover_but id a less none kept i b h =
      kept i b (λ x y.
      let at : holds_at id a es2 ≡ true = (λ k. holds_at (sym x k) (sym y k) es2) ∙ h in
      let no : ⊥ = cc in no) (covered i b (less i b h))

  pub cover_others : (a : ℕ) → HoldsLess es es2 → ((i : ℕ) → holds_at i a es2 ≡ false)
      → KeepsOthers a sets sets2 → Covers sets2 es2
  cover_others a less none kept i b h =
      kept i b (λ y.
      let at : holds_at i a es2 ≡ true = (λ k. holds_at i (sym y k) es2) ∙ h in
      let off = none i in let no : ⊥ = cc in no) (covered i b (less i b h))

  -- a connection that has no ages holds nothing
  pub cover_left : (id : ℕ) → HoldsLess es es2 → ((a : ℕ) → holds_at id a es2 ≡ false)
      → ((i b : ℕ) → (i ≡ id → ⊥) → has i b sets ≡ true → has i b sets2 ≡ true)
      → Covers sets2 es2
  cover_left id less none kept i b h =
      kept i b (λ x.
      let at : holds_at id b es2 ≡ true = (λ k. holds_at (sym x k) b es2) ∙ h in
      let off = none b in let no : ⊥ = cc in no) (covered i b (less i b h))

pub same_less : (es es2 : Entries) → es2 ≡ es → HoldsLess es es2
same_less es es2 same i b h = sym (ap (holds_at i b) same) ∙ h

pub no_row : (id a : ℕ) (es es2 : Entries) → AllBelow a es → es2 ≡ es → holds_at id a es2 ≡ false
no_row id a es es2 below same =
    ap (holds_at id a) same ∙ ap (is_held_by id) (below_none a es below)

-- ---- a row by its age

pub none_at : (id : ℕ) (es : Entries) → IsStrictlySortedBy nat_cmp (keys_of es)
    → ((a : ℕ) → holds_at id a es ≡ false) → (q : List ℕ)
    → held_by id (holders_of q (rows_of es)) ≡ false
none_at id es up none q = by (age_of q es) refl
  where
    by : (o : Option ℕ) → age_of q es ≡ o → held_by id (holders_of q (rows_of es)) ≡ false
    by None e = ap (held_by id) (no_holders q es e)
    by (Some a) e =
        let r = row_at q a es up e in
        ap (held_by id) r.holders ∙ sym (ap (is_held_by id) r.there) ∙ none a

-- an age that was taken of the rest is that of a row that the connection left
pub age_left : (id age a : ℕ) (ages : List ℕ) (es : Entries) → holds_at id age es ≡ false
    → holds_at id a es ≡ true → has_age a (age ∷ ages) ≡ true → has_age a ages ≡ true
age_left id age a ages es gone held is = by (at_age a age) refl
  where
    by : (t : Bool) → at_age a age ≡ t → has_age a ages ≡ true
    by true e =
        let at : holds_at id age es ≡ true =
        ap (λ n. holds_at id n es) (sym (same_age a age e)) ∙ held in
        absurd (let no : ⊥ = cc in no)
    by false e = sym (ap (λ b. b || has_age a ages) e) ∙ is

pub no_ages : (ages : List ℕ) → (0 < length ages → false ≡ true) → ages ≡ []
no_ages [] none = refl
no_ages (a ∷ ages) none =
    let f : false ≡ true = none (omega arith) in absurd (let no : ⊥ = cc in no)

-- what no ages are left for is not held
pub none_more : (id : ℕ) (ages : List ℕ) (es : Entries) → ages ≡ []
    → ((a : ℕ) → holds_at id a es ≡ true → has_age a ages ≡ true) → (a : ℕ)
    → holds_at id a es ≡ false
none_more id ages es empty all a = by (holds_at id a es) refl
  where
    by : (t : Bool) → holds_at id a es ≡ t → t ≡ false
    by true e =
        let f : false ≡ true = sym (ap (has_age a) empty) ∙ all a e in
        absurd (let no : ⊥ = cc in no)
    by false e = refl

pub none_had : (id : ℕ) (sets : Sets) (es : Entries) → Covers sets es
    → ((a : ℕ) → has id a sets ≡ false) → (a : ℕ) → holds_at id a es ≡ false
none_had id sets es covered none a = by (holds_at id a es) refl
  where
    by : (t : Bool) → holds_at id a es ≡ t → t ≡ false
    by true e =
        let h = covered id a e in let n = none a in absurd (let no : ⊥ = cc in no)
    by false e = refl

key_apart : (k : List ℕ) (a : ℕ) (r : Held) (es : Entries) → HasNo k (rows_of es)
    → lookup (at_age a) es ≡ Some r → bytes_eq k r.key ≡ false
key_apart k a r [] no_key there = absurd (let no : ⊥ = cc in no)
key_apart k a r (e ∷ es) no_key there =
    by (at_age a e.0) there (key_apart k a r es no_key.1)
  where
    by : (t : Bool) → cond t (Some e.1) (lookup (at_age a) es) ≡ Some r
        → (lookup (at_age a) es ≡ Some r → bytes_eq k r.key ≡ false) → bytes_eq k r.key ≡ false
    by true f rest = sym (ap (key_in) f) ∙ no_key.0
      where
        key_in : Option Held → Bool
        key_in None = true
        key_in (Some x) = bytes_eq k x.key
    by false f rest = rest f

pub at_row : (a : ℕ) (r : Held) (es : Entries) → AreOrdered (rows_of es)
    → lookup (at_age a) es ≡ Some r → age_of r.key es ≡ Some a
at_row a r [] ordered there = absurd (let no : ⊥ = cc in no)
at_row a r (e ∷ es) ordered there = by (at_age a e.0) refl there (at_row a r es ordered.2)
  where
    by : (t : Bool) → at_age a e.0 ≡ t → cond t (Some e.1) (lookup (at_age a) es) ≡ Some r
        → (lookup (at_age a) es ≡ Some r → age_of r.key es ≡ Some a)
        → age_of r.key (e ∷ es) ≡ Some a
    by true e' f rest =
        ap (λ b. cond b (Some e.0) (age_of r.key es)) (same f)
        ∙ ap (λ n. Some n) (sym (same_age a e.0 e'))
      where
        same : Some e.1 ≡ Some r → bytes_eq r.key e.1.key ≡ true
        same g = sym (ap key_in g) ∙ itself'
          where
            key_in : Option Held → Bool
            key_in None = true
            key_in (Some x) = bytes_eq x.key e.1.key

            itself' : bytes_eq e.1.key e.1.key ≡ true
            itself' = itself e.1.key
    by false e' f rest =
        ap (λ b. cond b (Some e.0) (age_of r.key es))
        (apart e.1.key r.key (key_apart e.1.key a r es ordered.1 f)) ∙ rest f
