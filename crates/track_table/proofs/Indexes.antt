-- The rows and what their keys are found by, after each change.
use Rattle.std.proofs.Common.{◌≡◌, ◌++◌, ℕ, List, [], ◌∷◌, Bool, true, false, cond, sym, ap, ◌∙◌}
use Rattle.std.proofs.Common.{refl}
use Rattle.std.proofs.Common.{arith, subst, Option, Some, None, Result, Ok, Err, OnOk, OnErr}
use Rattle.std.specs.Global.{Vec}
use Rattle.std.specs.Str.{bytes_eq}
use Rattle.std.specs.List.Sorted.{IsStrictlySortedBy}
use Rattle.std.specs.Map.{lookup, remove_entry, set_value, keys_of}
use Rattle.std.specs.Ordering.{nat_cmp}
use Rattle.track_table.specs.declared.table.Held.{Held}
use Rattle.track_table.specs.Table.{remembered, released, freed_of, is_held, without_key}
use Rattle.track_table.specs.Order.{IsTable}
use Rattle.track_table.specs.Aged.{AllBelow, IsHeldAt, IsIndexed, IsWritten, age_of, grown, rows_of}
use Rattle.track_table.specs.Marks.{IsGone, IsIn, IsOut, IsPut, age_at}
use Rattle.track_table.proofs.Aged.{Entries, RowAt, ages_pushed, ages_removed, ages_set, at_age}
use Rattle.track_table.proofs.Aged.{forgotten_row, freed_row, gone_row, grown_row, here, last_apart}
use Rattle.track_table.proofs.Aged.{removed_set, row_at, rows_pushed, rows_removed, rows_set}
use Rattle.track_table.proofs.Marked.{found_gone, found_put, found_set, set_else}
use Rattle.track_table.proofs.Orders.{table_remembered, table_without_key}
use Rattle.track_table.proofs.Releases.{itself, table_released}

module _ (key : List ℕ) (es : Entries) (marks : List (ℕ × ℕ)) (others : List (Vec ℕ × ℕ))
    (is : IsIndexed es marks others) where
  pub row_found : (a : ℕ) → Some a ≡ age_at key es marks others → RowAt key a es
  row_found a at = row_at key a es is.ordered (sym (is.found key) ∙ sym at)

  pub age_found : (a : ℕ) → Some a ≡ age_at key es marks others → age_of key es ≡ Some a
  age_found a at = sym (is.found key) ∙ sym at

  pub none_found : None ≡ age_at key es marks others → age_of key es ≡ None
  none_found at = sym (is.found key) ∙ sym at

pub row_same : (r s : Held) (o : Option Held) → Some r ≡ o → o ≡ Some s → r ≡ s
row_same r s o e f = let g = e ∙ f in grind arith

pub row_none : {A : Type 0} (s : Held) (o : Option Held) → None ≡ o → o ≡ Some s → A
row_none s o e f = let g : None ≡ Some s = e ∙ f in absurd (let no : ⊥ = cc in no)

-- ---- the rows and their index, after each change

module _ (key : List ℕ) (a : ℕ) (es es2 : Entries) (marks marks2 : List (ℕ × ℕ))
    (others others2 : List (Vec ℕ × ℕ)) (is : IsIndexed es marks others)
    (up : IsStrictlySortedBy nat_cmp (keys_of es2)) where
  -- a row was taken out, and what its key is found by
  pub out_rows : Some a ≡ age_at key es marks others → es2 ≡ remove_entry (at_age a) es
      → rows_of es2 ≡ without_key key (rows_of es)
  out_rows at new =
      ap rows_of new
      ∙ rows_removed key a es is.ordered (age_found key es marks others is a at)
      ∙ sym (forgotten_row key (rows_of es) is.table.ordered)

  pub out_indexed : Some a ≡ age_at key es marks others → es2 ≡ remove_entry (at_age a) es
      → IsOut a es es2 → IsGone key a marks marks2 others others2
      → IsIndexed es2 marks2 others2
  out_indexed at new out gone =
      let r = row_found key es marks others is a at in record {
        ordered = up;
        table = subst IsTable (sym (out_rows at new)) (table_without_key key (rows_of es) is.table);
        found = λ q.
            found_gone key a r.row es es2 marks marks2 others others2 r.there r.same (sym at) out
            gone q
            ∙ ap (λ o. cond (bytes_eq q key) None o) (is.found q)
            ∙ sym (ap (age_of q) new ∙ ages_removed q key a es is.ordered is.table.ordered
            (age_found key es marks others is a at));
      }

  -- a row was put last, and what its key is found by
  pub put_indexed : (row : Held) → IsTable (rows_of es ++ row ∷ [])
      → es2 ≡ es ++ (a, row) ∷ [] → key ≡ row.key → AllBelow a es → IsIn a row es es2
      → IsPut key a marks marks2 others others2 → IsIndexed es2 marks2 others2
  put_indexed row table new same below more put = record {
    ordered = up;
    table = subst IsTable (sym (ap rows_of new ∙ rows_pushed a row es)) table;
    found = λ q.
        found_put key a row es es2 marks marks2 others others2 below
        (ap (bytes_eq key) (sym same) ∙ itself key)
        (ap (λ k. age_of k es) same ∙ last_apart row es table.ordered) more put q
        ∙ ap (λ k. cond (bytes_eq q k) (Some a) (age_at q es marks others)) same
        ∙ ap (λ o. cond (bytes_eq q row.key) (Some a) o) (is.found q)
        ∙ sym (ap (age_of q) new ∙ ages_pushed q a row es (last_apart row es table.ordered));
  }

module _ (key : List ℕ) (a : ℕ) (es es2 : Entries) (marks : List (ℕ × ℕ))
    (others : List (Vec ℕ × ℕ)) (is : IsIndexed es marks others)
    (up : IsStrictlySortedBy nat_cmp (keys_of es2)) (at : Some a ≡ age_at key es marks others) where
  -- a row was changed in its place
  written : (change : Held → Held) → ((r : Held) → (change r).key ≡ r.key)
      → IsTable (rows_of es2) → IsWritten a change es es2 → IsIndexed es2 marks others
  written change same table new =
      let r = row_found key es marks others is a at in record {
        ordered = up;
        table = table;
        found = λ q.
            ap (λ l. age_at q l marks others) (new r.row r.there)
            ∙ found_set q a r.row (change r.row) (same r.row) es marks others r.there
            ∙ is.found q ∙ sym (ap (age_of q) (new r.row r.there)
            ∙ ages_set q a r.row (change r.row) es r.there (same r.row));
      }

  pub grown_rows : (id : ℕ) → IsWritten a (grown id) es es2
      → rows_of es2 ≡ remembered id key (rows_of es)
  grown_rows id new =
      let r = row_found key es marks others is a at in
      ap rows_of (new r.row r.there)
      ∙ rows_set key a (grown id r.row) es is.ordered
      (age_found key es marks others is a at)
      ∙ sym (grown_row key id r.row (rows_of es) r.first)

  pub grown_indexed : (id : ℕ) → IsWritten a (grown id) es es2 → IsIndexed es2 marks others
  grown_indexed id new =
      written (grown id) (λ r. refl) (subst IsTable (sym (grown_rows id new))
      (table_remembered id key (rows_of es) is.table)) new

  set_there : (w : Held) (fs : Entries) (r : Held) → lookup (at_age a) fs ≡ Some r
      → lookup (at_age a) (set_value (at_age a) fs w) ≡ Some w
  set_there w [] r there = absurd (let no : ⊥ = cc in no)
  set_there w (e ∷ fs) r there =
      elim (at_age a e.0) as (λ t. at_age a e.0 ≡ t
      → cond t (Some e.1) (lookup (at_age a) fs) ≡ Some r
      → lookup (at_age a) (cond t ((e.0, w) ∷ fs) (e ∷ set_value (at_age a) fs w)) ≡ Some w) [
        | true ↦ λ t f. ap (λ b. cond b (Some w) (lookup (at_age a) fs)) t
        | false ↦ λ t f.
            ap (λ b. cond b (Some e.1) (lookup (at_age a) (set_value (at_age a) fs w))) t
            ∙ set_there w fs r f
      ] refl there

  -- whether the row that a connection left is held still
  still : (id : ℕ) (b : Bool) → IsWritten a (freed_of id) es es2 → IsHeldAt a b es2
      → (r : Held) → lookup (at_age a) es ≡ Some r → b ≡ is_held (freed_of id r)
  still id b new held r there =
      held (freed_of id r) (ap (lookup (at_age a)) (new r there)
      ∙ set_there (freed_of id r) es r there)

  pub freed_rows : (id : ℕ) → IsWritten a (freed_of id) es es2 → IsHeldAt a true es2
      → rows_of es2 ≡ released id key (rows_of es)
  freed_rows id new held =
      let r = row_found key es marks others is a at in
      ap rows_of (new r.row r.there)
      ∙ rows_set key a (freed_of id r.row) es is.ordered
      (age_found key es marks others is a at)
      ∙ sym (freed_row key id r.row (rows_of es) r.first
      (sym (still id true new held r.row r.there)))

  pub freed_indexed : (id : ℕ) → IsWritten a (freed_of id) es es2 → IsHeldAt a true es2
      → IsIndexed es2 marks others
  freed_indexed id new held =
      written (freed_of id) (λ r. refl) (subst IsTable (sym (freed_rows id new held))
      (table_released id key (rows_of es) is.table)) new

  pub gone_entries : (id : ℕ) (es3 : Entries) → IsWritten a (freed_of id) es es2
      → es3 ≡ remove_entry (at_age a) es2 → es3 ≡ remove_entry (at_age a) es
  gone_entries id es3 new out =
      let r = row_found key es marks others is a at in
      out ∙ ap (remove_entry (at_age a)) (new r.row r.there)
      ∙ removed_set a (freed_of id r.row) es

  pub gone_rows : (id : ℕ) → IsWritten a (freed_of id) es es2 → IsHeldAt a false es2
      → released id key (rows_of es) ≡ without_key key (rows_of es)
  gone_rows id new held =
      let r = row_found key es marks others is a at in
      gone_row key id r.row (rows_of es) r.first (sym (still id false new held r.row r.there))
      ∙ sym (forgotten_row key (rows_of es) is.table.ordered)

  -- the row that a connection left went, as nobody holds it
  pub left_out : (id : ℕ) (es3 : Entries) → IsWritten a (freed_of id) es es2
      → IsOut a es2 es3 → IsOut a es es3
  left_out id es3 new out b =
      let r = row_found key es marks others is a at in
      out b ∙ by (at_age a b) refl
    where
      by : (t : Bool) → at_age a b ≡ t
          → cond t None (lookup (at_age b) es2) ≡ cond t None (lookup (at_age b) es)
      by true e = refl
      by false e =
          let r = row_found key es marks others is a at in
          ap (lookup (at_age b)) (new r.row r.there)
          ∙ set_else a b (freed_of id r.row) es e

-- what rows that stay are found by
pub indexed_same : (es es2 : Entries) (marks marks2 : List (ℕ × ℕ))
    (others others2 : List (Vec ℕ × ℕ)) → IsIndexed es marks others
    → IsStrictlySortedBy nat_cmp (keys_of es2) → es2 ≡ es → marks2 ≡ marks → others2 ≡ others
    → IsIndexed es2 marks2 others2
indexed_same es es2 marks marks2 others others2 is up same first second = record {
  ordered = up;
  table = subst (λ l. IsTable (rows_of l)) (sym same) is.table;
  found = λ q.
      (λ i. age_at q (same i) (first i) (second i)) ∙ is.found q ∙ sym (ap (age_of q) same);
}

pub first_indexed : (e : ℕ × Held) (key : List ℕ) (es es2 : Entries) (marks marks2 : List (ℕ × ℕ))
    (others others2 : List (Vec ℕ × ℕ)) → e.1.key ≡ key → IsIndexed es marks others
    → es ≡ e ∷ es2 → IsStrictlySortedBy nat_cmp (keys_of es2) → IsOut e.0 es es2
    → IsGone key e.0 marks marks2 others others2 → IsIndexed es2 marks2 others2
first_indexed e key es es2 marks marks2 others others2 same is split up out gone =
    out_indexed key e.0 es es2 marks marks2 others others2 is up (sym age ∙ sym (is.found key))
    (sym first) out gone
  where
    own : bytes_eq key e.1.key ≡ true
    own = ap (bytes_eq key) same ∙ itself key

    age : age_of key es ≡ Some e.0
    age = ap (age_of key) split ∙ ap (λ b. cond b (Some e.0) (age_of key es2)) own

    first : remove_entry (at_age e.0) es ≡ es2
    first = ap (remove_entry (at_age e.0)) split
        ∙ ap (λ b. cond b es2 (e ∷ remove_entry (at_age e.0) es2)) (here e.0)

-- ---- by what a call answered

pub on_result : {A B : Type 0} {P Q R : Type 0} (r : Result A B) → OnOk r P → OnErr r Q
    → (P → R) → (Q → R) → R
on_result (Ok x) p q f g = f p
on_result (Err x) p q f g = g q

module _ {A B : Type 0} {P R : Type 0} where
  pub on_ok : (r : Result A B) → OnOk r P → (P → R) → OnOk r R
  on_ok (Ok x) p f = f p
  on_ok (Err x) p f = tt
