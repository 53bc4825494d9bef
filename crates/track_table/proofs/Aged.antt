-- Rows by their ages: what a change at an age is to the rows, and to the index of the ages.
use Rattle.std.proofs.Common.{◌≡◌, ◌==◌, ◌<◌, ◌++◌, ℕ, suc, List, [], ◌∷◌, Bool, true, false, cond}
use Rattle.std.proofs.Common.{not, sym, ap, ◌∙◌, refl, inl, inr, arith, subst, eq-eqb, Option}
use Rattle.std.proofs.Common.{ne_eqb, Some, None, SomeIff, IfSome, ◌+◌}
use Rattle.std.specs.Str.{bytes_eq}
use Rattle.std.specs.List.{AllByRecursion, All}
use Rattle.std.specs.List.Sorted.{IsStrictlySortedBy}
use Rattle.std.specs.Map.{lookup, remove_entry, set_value, keys_of}
use Rattle.std.specs.BTreeMap.{insert_entry}
use Rattle.std.specs.Ordering.{nat_cmp, is_eq, is_lt, match_ordering}
use Rattle.std.specs.Cmp.{nat_cmp_is}
use Rattle.std.specs.declared.cmp.Ordering.TheVariants.{Less, Greater, Equal}
use Rattle.std.proofs.lemmas.Bool.{cases_eq, cases_lt, cases_Bool, eqb-true}
use Rattle.std.proofs.lemmas.Bool.Decides.{nat_tests}
use Rattle.track_table.specs.declared.table.Held.{Held}
use Rattle.track_table.specs.Table.{holders_of, remembered, released, freed_of, is_held}
use Rattle.track_table.specs.Table.{without_key}
use Rattle.track_table.specs.Order.{HasNo, AreOrdered}
use Rattle.track_table.specs.Aged.{rows_of, age_of, grown, AllBelow}
use Rattle.track_table.proofs.Orders.{same_bytes, not_same, apart}

abbrev pub Entries : Type 0
Entries = List (ℕ × Held)

abbrev pub at_age : ℕ → ℕ → Bool
at_age n k = is_eq (nat_cmp n k)

-- the test of a look-up is that of the numbers
pub tie : (n k : ℕ) → at_age n k ≡ (k == n)
tie n k = grind (arith, cases_eq, eq-eqb, cases_lt, ne_eqb)

abbrev pub Above : ℕ → Entries → Type 0
Above a es = AllByRecursion (λ k. nat_cmp a k ≡ Less) (keys_of es)

pub not_less : (a : ℕ) → nat_cmp a a ≡ Less → ⊥
not_less a e = let s : nat_cmp a a ≡ Equal = sym (nat_cmp_is a a Equal refl) in let no : ⊥ = cc
    in no

-- an age among those above another is not that one
pub not_among : (key : List ℕ) (a b : ℕ) (es : Entries) → Above a es → age_of key es ≡ Some b
    → at_age b a ≡ false
not_among key a b [] all e = absurd (let no : ⊥ = cc in no)
not_among key a b (e ∷ es) all is =
    elim (bytes_eq key e.1.key) as (λ t. cond t (Some e.0) (age_of key es) ≡ Some b
    → at_age b a ≡ false) [
      | true ↦ λ f. elim (cases_Bool (a == b)) [
        | inl t ↦ absurd (not_less a (let x = all.0 in grind (arith, eqb-true)))
        | inr f ↦ tie b a ∙ f
      ]
      | false ↦ λ f. not_among key a b es all.1 f
    ] is

-- ---- the row at the age of a key

-- the first row with the key
abbrev first_row : List ℕ → List Held → Option Held
first_row key [] = None
first_row key (r ∷ rs) = cond (bytes_eq key r.key) (Some r) (first_row key rs)

pub record RowAt (key : List ℕ) (a : ℕ) (es : Entries) : Type 0 where
  pub row : Held
  pub there : lookup (at_age a) es ≡ Some row
  pub same : bytes_eq key row.key ≡ true
  pub holders : holders_of key (rows_of es) ≡ row.holders
  pub first : first_row key (rows_of es) ≡ Some row

pub here : (a : ℕ) → at_age a a ≡ true
here a = tie a a ∙ eq-eqb a a refl

pub some_same : (a b : ℕ) → Some a ≡ Some b → a ≡ b
some_same a b e = grind arith

pub row_at : (key : List ℕ) (a : ℕ) (es : Entries) → IsStrictlySortedBy nat_cmp (keys_of es)
    → age_of key es ≡ Some a → RowAt key a es
unfolding IsStrictlySortedBy
row_at key a [] up is = absurd (let no : ⊥ = cc in no)
row_at key a (e ∷ es) up is =
    elim (bytes_eq key e.1.key) as (λ t. bytes_eq key e.1.key ≡ t
    → cond t (Some e.0) (age_of key es) ≡ Some a → RowAt key a (e ∷ es)) [
      | true ↦ λ t f. record {
        row = e.1;
        there = ap (λ b. cond b (Some e.1) (lookup (at_age a) es))
            (ap (λ n. at_age n e.0) (sym (some_same e.0 a f)) ∙ here e.0);
        same = t;
        holders = ap (λ b. cond b e.1.holders (holders_of key (rows_of es))) t;
        first = ap (λ b. cond b (Some e.1) (first_row key (rows_of es))) t;
      }
      | false ↦ λ t f.
          let r = row_at key a es up.1 f in record {
            row = r.row;
            there = ap (λ b. cond b (Some e.1) (lookup (at_age a) es))
                (not_among key e.0 a es up.0 f) ∙ r.there;
            same = r.same;
            holders = ap (λ b. cond b e.1.holders (holders_of key (rows_of es))) t ∙ r.holders;
            first = ap (λ b. cond b (Some e.1) (first_row key (rows_of es))) t ∙ r.first;
          }
    ] refl is

pub no_holders : (key : List ℕ) (es : Entries) → age_of key es ≡ None
    → holders_of key (rows_of es) ≡ []
no_holders key [] is = refl
no_holders key (e ∷ es) is =
    elim (bytes_eq key e.1.key) as (λ t. cond t (Some e.0) (age_of key es) ≡ None
    → cond t e.1.holders (holders_of key (rows_of es)) ≡ []) [
      | true ↦ λ f. absurd (let no : ⊥ = cc in no)
      | false ↦ λ f. no_holders key es f
    ] is

-- ---- what a change at the age of a key is to the rows

-- another row in place of the first with the key
abbrev pub replaced : List ℕ → Held → List Held → List Held
replaced key w [] = []
replaced key w (r ∷ rs) = cond (bytes_eq key r.key) (w ∷ rs) (r ∷ replaced key w rs)

-- the first row with the key goes
abbrev pub without_first : List ℕ → List Held → List Held
without_first key [] = []
without_first key (r ∷ rs) = cond (bytes_eq key r.key) rs (r ∷ without_first key rs)

module _ (key : List ℕ) (a : ℕ) where
  pub rows_set : (w : Held) (es : Entries) → IsStrictlySortedBy nat_cmp (keys_of es)
      → age_of key es ≡ Some a → rows_of (set_value (at_age a) es w) ≡ replaced key w (rows_of es)
  unfolding IsStrictlySortedBy
  rows_set w [] up is = refl
  rows_set w (e ∷ es) up is =
      elim (bytes_eq key e.1.key) as (λ t. cond t (Some e.0) (age_of key es) ≡ Some a
      → rows_of (set_value (at_age a) (e ∷ es) w)
      ≡ cond t (w ∷ rows_of es) (e.1 ∷ replaced key w (rows_of es))) [
        | true ↦ λ f. ap (λ b. rows_of (cond b ((e.0, w) ∷ es) (e ∷ set_value (at_age a) es w)))
            (ap (λ n. at_age n e.0) (sym (some_same e.0 a f)) ∙ here e.0)
        | false ↦ λ f.
            ap (λ b. rows_of (cond b ((e.0, w) ∷ es) (e ∷ set_value (at_age a) es w)))
            (not_among key e.0 a es up.0 f)
            ∙ ap (λ l. e.1 ∷ l) (rows_set w es up.1 f)
      ] is

  pub rows_removed : (es : Entries) → IsStrictlySortedBy nat_cmp (keys_of es)
      → age_of key es ≡ Some a
      → rows_of (remove_entry (at_age a) es) ≡ without_first key (rows_of es)
  unfolding IsStrictlySortedBy
  rows_removed [] up is = refl
  rows_removed (e ∷ es) up is =
      elim (bytes_eq key e.1.key) as (λ t. cond t (Some e.0) (age_of key es) ≡ Some a
      → rows_of (remove_entry (at_age a) (e ∷ es))
      ≡ cond t (rows_of es) (e.1 ∷ without_first key (rows_of es))) [
        | true ↦ λ f. ap (λ b. rows_of (cond b es (e ∷ remove_entry (at_age a) es)))
            (ap (λ n. at_age n e.0) (sym (some_same e.0 a f)) ∙ here e.0)
        | false ↦ λ f.
            ap (λ b. rows_of (cond b es (e ∷ remove_entry (at_age a) es)))
            (not_among key e.0 a es up.0 f)
            ∙ ap (λ l. e.1 ∷ l) (rows_removed es up.1 f)
      ] is

-- a row that was written goes as it went before
pub removed_set : (a : ℕ) (w : Held) (es : Entries)
    → remove_entry (at_age a) (set_value (at_age a) es w) ≡ remove_entry (at_age a) es
removed_set a w [] = refl
removed_set a w (e ∷ es) =
    elim (at_age a e.0) as (λ t. at_age a e.0 ≡ t
    → remove_entry (at_age a) (cond t ((e.0, w) ∷ es) (e ∷ set_value (at_age a) es w))
    ≡ cond t es (e ∷ remove_entry (at_age a) es)) [
      | true ↦ λ f. ap (λ b. cond b es ((e.0, w) ∷ remove_entry (at_age a) es)) f
      | false ↦ λ f.
          ap (λ b. cond b (set_value (at_age a) es w)
          (e ∷ remove_entry (at_age a) (set_value (at_age a) es w))) f
          ∙ ap (λ l. e ∷ l) (removed_set a w es)
    ] refl

-- ---- the calls of the table, by the first row with the key

module _ (key : List ℕ) (id : ℕ) (r : Held) where
  one : (x : Held) → Some x ≡ Some r → x ≡ r
  one x e = grind arith

  pub grown_row : (rs : List Held) → first_row key rs ≡ Some r
      → remembered id key rs ≡ replaced key (grown id r) rs
  grown_row [] at = absurd (let no : ⊥ = cc in no)
  grown_row (x ∷ rs) at =
      elim (bytes_eq key x.key) as (λ t. cond t (Some x) (first_row key rs) ≡ Some r
      → cond t (grown id x ∷ rs) (x ∷ remembered id key rs)
      ≡ cond t (grown id r ∷ rs) (x ∷ replaced key (grown id r) rs)) [
        | true ↦ λ f. ap (λ y. grown id y ∷ rs) (one x f)
        | false ↦ λ f. ap (λ l. x ∷ l) (grown_row rs f)
      ] at

  abbrev left : Held → List Held → List Held
  left y rs = cond (is_held (freed_of id y)) (freed_of id y ∷ rs) rs

  pub freed_row : (rs : List Held) → first_row key rs ≡ Some r → is_held (freed_of id r) ≡ true
      → released id key rs ≡ replaced key (freed_of id r) rs
  freed_row [] at held = absurd (let no : ⊥ = cc in no)
  freed_row (x ∷ rs) at held =
      elim (bytes_eq key x.key) as (λ t. cond t (Some x) (first_row key rs) ≡ Some r
      → cond t (left x rs) (x ∷ released id key rs)
      ≡ cond t (freed_of id r ∷ rs) (x ∷ replaced key (freed_of id r) rs)) [
        | true ↦ λ f. ap (λ y. left y rs) (one x f)
            ∙ ap (λ b. cond b (freed_of id r ∷ rs) rs) held
        | false ↦ λ f. ap (λ l. x ∷ l) (freed_row rs f held)
      ] at

  pub gone_row : (rs : List Held) → first_row key rs ≡ Some r → is_held (freed_of id r) ≡ false
      → released id key rs ≡ without_first key rs
  gone_row [] at held = absurd (let no : ⊥ = cc in no)
  gone_row (x ∷ rs) at held =
      elim (bytes_eq key x.key) as (λ t. cond t (Some x) (first_row key rs) ≡ Some r
      → cond t (left x rs) (x ∷ released id key rs)
      ≡ cond t rs (x ∷ without_first key rs)) [
        | true ↦ λ f. ap (λ y. left y rs) (one x f)
            ∙ ap (λ b. cond b (freed_of id r ∷ rs) rs) held
        | false ↦ λ f. ap (λ l. x ∷ l) (gone_row rs f held)
      ] at

pub keeps_all : (key : List ℕ) (rs : List Held) → HasNo key rs → without_key key rs ≡ rs
keeps_all key [] h = refl
keeps_all key (r ∷ rs) h =
    ap (λ b. cond (not b) (r ∷ without_key key rs) (without_key key rs)) h.0
    ∙ ap (λ l. r ∷ l) (keeps_all key rs h.1)

pub forgotten_row : (key : List ℕ) (rs : List Held) → AreOrdered rs
    → without_key key rs ≡ without_first key rs
forgotten_row key [] h = refl
forgotten_row key (r ∷ rs) h =
    elim (bytes_eq key r.key) as (λ t. bytes_eq key r.key ≡ t
    → cond (not t) (r ∷ without_key key rs) (without_key key rs)
    ≡ cond t rs (r ∷ without_first key rs)) [
      | true ↦ λ f. keeps_all key rs (subst (λ k. HasNo k rs) (sym (same_bytes key r.key f)) h.1)
      | false ↦ λ f. ap (λ l. r ∷ l) (forgotten_row key rs h.2)
    ] refl

-- a key that has no age
pub new_row : (id : ℕ) (key : List ℕ) (es : Entries) → age_of key es ≡ None
    → remembered id key (rows_of es) ≡ rows_of es ++ record { key = key; holders = id ∷ [] } ∷ []
new_row id key [] is = refl
new_row id key (e ∷ es) is =
    elim (bytes_eq key e.1.key) as (λ t. cond t (Some e.0) (age_of key es) ≡ None
    → cond t (grown id e.1 ∷ rows_of es) (e.1 ∷ remembered id key (rows_of es))
    ≡ e.1 ∷ (rows_of es ++ record { key = key; holders = id ∷ [] } ∷ [])) [
      | true ↦ λ f. absurd (let no : ⊥ = cc in no)
      | false ↦ λ f. ap (λ l. e.1 ∷ l) (new_row id key es f)
    ] is

pub absent_row : (id : ℕ) (key : List ℕ) (es : Entries) → age_of key es ≡ None
    → released id key (rows_of es) ≡ rows_of es
absent_row id key [] is = refl
absent_row id key (e ∷ es) is =
    elim (bytes_eq key e.1.key) as (λ t. cond t (Some e.0) (age_of key es) ≡ None
    → cond t (left key id e.1 e.1 (rows_of es)) (e.1 ∷ released id key (rows_of es))
    ≡ e.1 ∷ rows_of es) [
      | true ↦ λ f. absurd (let no : ⊥ = cc in no)
      | false ↦ λ f. ap (λ l. e.1 ∷ l) (absent_row id key es f)
    ] is

pub absent_key : (key : List ℕ) (es : Entries) → age_of key es ≡ None
    → without_key key (rows_of es) ≡ rows_of es
absent_key key [] is = refl
absent_key key (e ∷ es) is =
    elim (bytes_eq key e.1.key) as (λ t. cond t (Some e.0) (age_of key es) ≡ None
    → cond (not t) (e.1 ∷ without_key key (rows_of es)) (without_key key (rows_of es))
    ≡ e.1 ∷ rows_of es) [
      | true ↦ λ f. absurd (let no : ⊥ = cc in no)
      | false ↦ λ f. ap (λ l. e.1 ∷ l) (absent_key key es f)
    ] is

-- ---- the ages of keys, as the rows change

no_age : (key : List ℕ) (es : Entries) → HasNo key (rows_of es) → age_of key es ≡ None
no_age key [] h = refl
no_age key (e ∷ es) h =
    ap (λ b. cond b (Some e.0) (age_of key es)) h.0 ∙ no_age key es h.1

-- a row whose key is the same
pub ages_set : (q : List ℕ) (a : ℕ) (r w : Held) (es : Entries) → lookup (at_age a) es ≡ Some r
    → w.key ≡ r.key → age_of q (set_value (at_age a) es w) ≡ age_of q es
ages_set q a r w [] at same = refl
ages_set q a r w (e ∷ es) at same =
    elim (at_age a e.0) as (λ t. cond t (Some e.1) (lookup (at_age a) es) ≡ Some r
    → age_of q (cond t ((e.0, w) ∷ es) (e ∷ set_value (at_age a) es w)) ≡ age_of q (e ∷ es)) [
      | true ↦ λ f. ap (λ k. cond (bytes_eq q k) (Some e.0) (age_of q es))
          (same ∙ sym (ap (λ (x : Held). x.key) (one [] 0 r e.1 f)))
      | false ↦ λ f. ap (λ o. cond (bytes_eq q e.1.key) (Some e.0) o) (ages_set q a r w es f same)
    ] at

pub ages_removed : (q key : List ℕ) (a : ℕ) (es : Entries)
    → IsStrictlySortedBy nat_cmp (keys_of es) → AreOrdered (rows_of es) → age_of key es ≡ Some a
    → age_of q (remove_entry (at_age a) es) ≡ cond (bytes_eq q key) None (age_of q es)
unfolding IsStrictlySortedBy
ages_removed q key a [] up h is = absurd (let no : ⊥ = cc in no)
ages_removed q key a (e ∷ es) up h is =
    elim (bytes_eq key e.1.key) as (λ t. bytes_eq key e.1.key ≡ t
    → cond t (Some e.0) (age_of key es) ≡ Some a
    → age_of q (remove_entry (at_age a) (e ∷ es))
    ≡ cond (bytes_eq q key) None (age_of q (e ∷ es))) [
      | true ↦ λ t f. ap (λ b. age_of q (cond b es (e ∷ remove_entry (at_age a) es)))
          (ap (λ n. at_age n e.0) (sym (some_same e.0 a f)) ∙ here e.0)
          ∙ same (bytes_eq q key) (bytes_eq q e.1.key) (Some e.0) (age_of q es)
          (ap (bytes_eq q) (same_bytes key e.1.key t))
          (λ s. no_age q es (subst (λ k. HasNo k (rows_of es))
          (sym (same_bytes q e.1.key s)) h.1))
      | false ↦ λ t f. ap (λ b. age_of q (cond b es (e ∷ remove_entry (at_age a) es)))
          (not_among key e.0 a es up.0 f)
          ∙ ap (λ o. cond (bytes_eq q e.1.key) (Some e.0) o) (ages_removed q key a es up.1 h.2 f)
          ∙ other (bytes_eq q key) (bytes_eq q e.1.key) (Some e.0) (age_of q es)
          (λ k s. not_same key e.1.key t (sym (same_bytes q key k) ∙ same_bytes q e.1.key s))
    ] refl is
  where
    same : (b c : Bool) (x o : Option ℕ) → b ≡ c → (c ≡ true → o ≡ None)
        → o ≡ cond b None (cond c x o)
    same b c x o e none = grind (arith, nat_tests)

    other : (b c : Bool) (x o : Option ℕ) → (b ≡ true → c ≡ true → ⊥)
        → cond c x (cond b None o) ≡ cond b None (cond c x o)
    other b c x o differ = grind (arith, nat_tests)

pub ages_first : (q : List ℕ) (e : ℕ × Held) (es : Entries) → AreOrdered (rows_of (e ∷ es))
    → age_of q es ≡ cond (bytes_eq q e.1.key) None (age_of q (e ∷ es))
ages_first q e es h = same (bytes_eq q e.1.key) (Some e.0) (age_of q es)
    (λ s. no_age q es (subst (λ k. HasNo k (rows_of es)) (sym (same_bytes q e.1.key s)) h.1))
  where
    same : (b : Bool) (x o : Option ℕ) → (b ≡ true → o ≡ None) → o ≡ cond b None (cond b x o)
    same b x o none = grind (arith, nat_tests)

-- the key of the last row is that of no other
pub last_apart : (r : Held) (es : Entries) → AreOrdered (rows_of es ++ r ∷ [])
    → age_of r.key es ≡ None
last_apart r [] h = refl
last_apart r (e ∷ es) h =
    ap (λ b. cond b (Some e.0) (age_of r.key es))
    (apart e.1.key r.key (last e.1.key (rows_of es) h.1)) ∙ last_apart r es h.2
  where
    last : (k : List ℕ) (rs : List Held) → HasNo k (rs ++ r ∷ []) → bytes_eq k r.key ≡ false
    last k [] n = n.0
    last k (x ∷ rs) n = last k rs n.1

pub ages_pushed : (q : List ℕ) (a : ℕ) (r : Held) (es : Entries) → age_of r.key es ≡ None
    → age_of q (es ++ (a, r) ∷ []) ≡ cond (bytes_eq q r.key) (Some a) (age_of q es)
ages_pushed q a r [] none = refl
ages_pushed q a r (e ∷ es) none =
    elim (bytes_eq r.key e.1.key) as (λ t. bytes_eq r.key e.1.key ≡ t
    → cond t (Some e.0) (age_of r.key es) ≡ None
    → age_of q ((e ∷ es) ++ (a, r) ∷ []) ≡ cond (bytes_eq q r.key) (Some a) (age_of q (e ∷ es))) [
      | true ↦ λ t f. absurd (let no : ⊥ = cc in no)
      | false ↦ λ t f.
          ap (λ o. cond (bytes_eq q e.1.key) (Some e.0) o) (ages_pushed q a r es f)
          ∙ other (bytes_eq q r.key) (bytes_eq q e.1.key) (Some e.0) (Some a) (age_of q es)
          (λ k s. not_same r.key e.1.key t (sym (same_bytes q r.key k) ∙ same_bytes q e.1.key s))
    ] refl none
  where
    other : (b c : Bool) (x y o : Option ℕ) → (b ≡ true → c ≡ true → ⊥)
        → cond c x (cond b y o) ≡ cond b y (cond c x o)
    other b c x y o differ = grind (arith, nat_tests)

-- ---- an age above all

pub below_last : (last n : ℕ) (es : Entries)
    → All (λ k. is_lt (nat_cmp last k) ≡ false) (keys_of es) → last < n → AllBelow n es
below_last last n [] all lt = tt
below_last last n (e ∷ es) all lt = (
  first (all 0 0 (omega arith)),
  below_last last n es (λ k d l. all (suc k) d (omega (arith, l))) lt,
)
  where
    first : is_lt (nat_cmp last e.0) ≡ false → e.0 < n
    first f = elim (cases_lt e.0 n) [
      | inl below ↦ below
      | inr ge ↦
          let up : last < e.0 = omega (arith, ge, lt) in
          let no : true ≡ false = ap is_lt (nat_cmp_is last e.0 Less up) ∙ f in
          cc
    ]

pub if_next : (last : ℕ) (P : Type 0) (o : Option ℕ) (es : Entries)
    → All (λ k. is_lt (nat_cmp last k) ≡ false) (keys_of es) → SomeIff o P (last + 1)
    → IfSome o (λ n. AllBelow n es)
if_next last P None es all is = tt
if_next last P (Some n) es all is =
    below_last last n es all (next is)
  where
    next : SomeIff (Some n) P (last + 1) → last < n
    next f = grind arith

pub inserted_last : (n : ℕ) (r : Held) (es : Entries) → AllBelow n es
    → insert_entry nat_cmp es n r ≡ es ++ (n, r) ∷ []
inserted_last n r [] below = refl
inserted_last n r (e ∷ es) below =
    ap (λ o. match_ordering o ((n, r) ∷ e ∷ es) ((e.0, r) ∷ es) (e ∷ insert_entry nat_cmp es n r))
    (sym (nat_cmp_is n e.0 Greater below.0))
    ∙ ap (λ l. e ∷ l) (inserted_last n r es below.1)

pub removed_last : (n : ℕ) (r : Held) (es : Entries) → AllBelow n es
    → remove_entry (at_age n) (es ++ (n, r) ∷ []) ≡ es
removed_last n r [] below = ap (λ b. cond b [] ((n, r) ∷ [])) (here n)
removed_last n r (e ∷ es) below =
    ap (λ b. cond b (es ++ (n, r) ∷ []) (e ∷ remove_entry (at_age n) (es ++ (n, r) ∷ [])))
    (ap is_eq (sym (nat_cmp_is n e.0 Greater below.0)))
    ∙ ap (λ l. e ∷ l) (removed_last n r es below.1)

pub rows_pushed : (n : ℕ) (r : Held) (es : Entries)
    → rows_of (es ++ (n, r) ∷ []) ≡ rows_of es ++ r ∷ []
rows_pushed n r [] = refl
rows_pushed n r (e ∷ es) = ap (λ l. e.1 ∷ l) (rows_pushed n r es)
