-- Rows that were taken out come back to their places.
use Rattle.std.proofs.Common.{◌≡◌, ◌<◌, ◌+◌, ◌++◌, ℕ, List, [], ◌∷◌, Bool, true, false, cond}
use Rattle.std.proofs.Common.{Option, Some, None, length, drop, get_or, remove, insert, not}
use Rattle.std.proofs.Common.{refl, ap, sym, ◌∙◌, arith, subst}
use Rattle.std.specs.Prelude.{option_to_list}
use Prim.Native.Nat.{zero, suc}
use Rattle.std.specs.Str.{bytes_eq}
use Rattle.std.proofs.Common.{◌&&◌, ◌≤◌, ◌==◌, ne_eqb}
use Rattle.std.specs.Ordering.{nat_cmp, is_lt}
use Rattle.std.specs.Cmp.{nat_cmp_is, ranked}
use Rattle.std.specs.declared.cmp.Ordering.TheVariants.{Less, Greater, Equal}
use Rattle.std.specs.declared.ops.Bound.TheVariants.{Excluded, Unbounded}
use Rattle.std.specs.BTreeMap.Range.{entries_between}
use Rattle.track_table.specs.Aged.{rows_of, age_of}
use Rattle.std.specs.List.{slice_get}
use Rattle.std.specs.Map.{keys_of, lookup}
use Rattle.std.specs.List.Sorted.{IsStrictlySortedBy}
use Rattle.track_table.specs.declared.table.Held.{Held}
use Rattle.track_table.specs.declared.aside.Parted.{Parted}
use Rattle.track_table.specs.Table.{holders_of, without_key, without_keys}
use Rattle.track_table.specs.Order.{AreHeld, AreOrdered, HasNo, IsTable, IsWhole}
use Rattle.track_table.specs.Places.{nobody, IsPlace, NoneBefore, key_at}
use Rattle.track_table.specs.Aside.{first_key, parted_of, is_next, put_in, all_put}
use Rattle.track_table.proofs.Orders.{apart, same_bytes, table_without_key}
use Rattle.track_table.proofs.Parts.{whole_front, whole_without_key, without_key_parts}
use Rattle.track_table.proofs.Releases.{itself}
use Rattle.track_table.proofs.Aged.{forgotten_row, keeps_all, without_first, Above, Entries, at_age}
use Rattle.track_table.proofs.Aged.{here, not_among, some_same}

-- ---- a row that comes back stands where it stood

module _ (key q : List ℕ) where
  -- the key behind a row is none that no row has
  next_apart : (p : Parted) (rs : List Held) → HasNo q rs → parted_of key rs ≡ Some p
      → is_next p.next q ≡ false
  next_apart p [] none is = absurd (let no : ⊥ = cc in no)
  next_apart p (r ∷ rs) none is =
      elim (bytes_eq key r.key) as (λ t.
      cond t (Some (record { row = r; next = first_key rs })) (parted_of key rs) ≡ Some p
      → is_next p.next q ≡ false) [
        | true ↦ λ f. ap (λ (x : Parted). is_next x.next q) (sym (one _ p f)) ∙ first rs none.1
        | false ↦ λ f. next_apart p rs none.1 f
      ] is
    where
      one : (a b : Parted) → Some a ≡ Some b → a ≡ b
      one a b e = grind arith

      first : (xs : List Held) → HasNo q xs → is_next (first_key xs) q ≡ false
      first [] h = refl
      first (x ∷ xs) h = apart q x.key h.0

-- a row before the one that it stood before
first_back : (r : Held) (rs : List Held) → put_in (record { row = r; next = first_key rs }) rs
    ≡ r ∷ rs
first_back r [] = refl
first_back r (s ∷ rs) =
    ap (λ b. cond b (r ∷ s ∷ rs) (s ∷ put_in (record { row = r; next = Some s.key }) rs))
    (itself s.key)

-- a row that does not stand before the first
later_back : (key : List ℕ) (o : Option Parted) (r : Held) (rs xs : List Held)
    → parted_of key rs ≡ o → HasNo r.key rs
    → all_put (option_to_list o) (r ∷ xs) ≡ r ∷ all_put (option_to_list o) xs
later_back key None r rs xs is none = refl
later_back key (Some p) r rs xs is none =
    ap (λ b. cond b (p.row ∷ r ∷ xs) (r ∷ put_in p xs)) (next_apart key r.key p rs none is)

pub parted_back : (key : List ℕ) (rs : List Held) → AreOrdered rs
    → all_put (option_to_list (parted_of key rs)) (without_key key rs) ≡ rs
parted_back key [] h = refl
parted_back key (r ∷ rs) h =
    elim (bytes_eq key r.key) as (λ t. bytes_eq key r.key ≡ t
    → all_put (option_to_list (cond t (Some (record { row = r; next = first_key rs }))
    (parted_of key rs))) (cond (not t) (r ∷ without_key key rs) (without_key key rs)) ≡ r ∷ rs) [
      | true ↦ λ t.
          ap (put_in (record { row = r; next = first_key rs }))
          (keeps_all key rs (subst (λ k. HasNo k rs) (sym (same_bytes key r.key t)) h.1))
          ∙ first_back r rs
      | false ↦ λ t.
          later_back key (parted_of key rs) r rs (without_key key rs) refl h.1
          ∙ ap (λ l. r ∷ l) (parted_back key rs h.2)
    ] refl

-- ---- row by row

pub all_append : (ps qs : List Parted) (rows : List Held)
    → all_put (ps ++ qs) rows ≡ all_put ps (all_put qs rows)
all_append [] qs rows = refl
all_append (p ∷ ps) qs rows = ap (put_in p) (all_append ps qs rows)

put_one : (p : Parted) (rows : List Held) → length (put_in p rows) ≡ length rows + 1
put_one p [] = omega arith
put_one p (r ∷ rs) =
    elim (is_next p.next r.key) as (λ t. length (cond t (p.row ∷ r ∷ rs) (r ∷ put_in p rs))
    ≡ length (r ∷ rs) + 1) [
      | true ↦ omega arith
      | false ↦ omega (arith, put_one p rs)
    ]

pub put_more : (ps : List Parted) (rows : List Held)
    → length (all_put ps rows) ≡ length rows + length ps
put_more [] rows = omega arith
put_more (p ∷ ps) rows = omega (arith, put_one p (all_put ps rows), put_more ps rows)

pub last_without : (keys : List (List ℕ)) (key : List ℕ) (rows : List Held)
    → without_keys (keys ++ key ∷ []) rows ≡ without_key key (without_keys keys rows)
last_without [] key rows = refl
last_without (k ∷ keys) key rows = last_without keys key (without_key k rows)

-- ---- where a row is put

pub put_at : (key : List ℕ) (row : Held) (rs : List Held) (n : ℕ) → n < length rs
    → bytes_eq key (key_at rs n) ≡ true → NoneBefore key rs n
    → insert rs n row ≡ put_in (record { row = row; next = Some key }) rs
put_at key row [] n lt is before = absurd (omega arith)
put_at key row (r ∷ rs) zero lt is before =
    sym (ap (λ b. cond b (row ∷ r ∷ rs) (r ∷ put_in (record { row = row; next = Some key }) rs)) is)
put_at key row (r ∷ rs) (suc n) lt is before =
    ap (λ l. r ∷ l) (put_at key row rs n (omega arith) is (λ i k. before (suc i) (omega arith)))
    ∙ sym (ap (λ b. cond b (row ∷ r ∷ rs) (r ∷ put_in (record { row = row; next = Some key }) rs))
    (before 0 (omega arith)))

pub put_last : (key : List ℕ) (row : Held) (rs : List Held) → NoneBefore key rs (length rs)
    → insert rs (length rs) row ≡ put_in (record { row = row; next = Some key }) rs
put_last key row [] none = refl
put_last key row (r ∷ rs) none =
    ap (λ l. r ∷ l) (put_last key row rs (λ i k. none (suc i) (omega arith)))
    ∙ sym (ap (λ b. cond b (row ∷ r ∷ rs) (r ∷ put_in (record { row = row; next = Some key }) rs))
    (none 0 (omega arith)))

pub put_behind : (row : Held) (rs : List Held)
    → insert rs (length rs) row ≡ put_in (record { row = row; next = None }) rs
put_behind row [] = refl
put_behind row (r ∷ rs) = ap (λ l. r ∷ l) (put_behind row rs)

-- ---- the row that goes, in a table of two parts

module _ (key : List ℕ) (ys : List Held) where
  pub parted_behind : (xs : List Held) → NoneBefore key xs (length xs)
      → parted_of key (xs ++ ys) ≡ parted_of key ys
  parted_behind [] none = refl
  parted_behind (x ∷ xs) none =
      ap (λ b. cond b (Some (record { row = x; next = first_key (xs ++ ys) }))
      (parted_of key (xs ++ ys))) (none 0 (omega arith))
      ∙ parted_behind xs (λ i k. none (suc i) (omega arith))

  pub parted_at : (xs : List Held) (n : ℕ) → n < length xs → bytes_eq key (key_at xs n) ≡ true
      → NoneBefore key xs n
      → parted_of key (xs ++ ys) ≡ Some (record {
        row = get_or xs n nobody;
        next = first_key (drop (suc n) (xs ++ ys));
      })
  parted_at [] n lt is before = absurd (omega arith)
  parted_at (x ∷ xs) zero lt is before =
      ap (λ b. cond b (Some (record { row = x; next = first_key (xs ++ ys) }))
      (parted_of key (xs ++ ys))) is
  parted_at (x ∷ xs) (suc n) lt is before =
      ap (λ b. cond b (Some (record { row = x; next = first_key (xs ++ ys) }))
      (parted_of key (xs ++ ys))) (before 0 (omega arith))
      ∙ parted_at xs n (omega arith) is (λ i k. before (suc i) (omega arith))

  first_at : (xs : List Held) (n : ℕ) → n < length xs → bytes_eq key (key_at xs n) ≡ true
      → NoneBefore key xs n → without_first key (xs ++ ys) ≡ remove xs n ++ ys
  first_at [] n lt is before = absurd (omega arith)
  first_at (x ∷ xs) zero lt is before =
      ap (λ b. cond b (xs ++ ys) (x ∷ without_first key (xs ++ ys))) is
  first_at (x ∷ xs) (suc n) lt is before =
      ap (λ b. cond b (xs ++ ys) (x ∷ without_first key (xs ++ ys))) (before 0 (omega arith))
      ∙ ap (λ l. x ∷ l) (first_at xs n (omega arith) is (λ i k. before (suc i) (omega arith)))

  pub removed_at : (xs : List Held) (n : ℕ) → AreOrdered (xs ++ ys) → n < length xs
      → bytes_eq key (key_at xs n) ≡ true → NoneBefore key xs n
      → remove xs n ++ ys ≡ without_key key (xs ++ ys)
  removed_at xs n h lt is before =
      sym (forgotten_row key (xs ++ ys) h ∙ first_at xs n lt is before)

pub none_at : (key : List ℕ) (xs : List Held) → NoneBefore key xs (length xs)
    → xs ≡ without_key key xs
none_at key [] none = refl
none_at key (x ∷ xs) none =
    ap (λ l. x ∷ l) (none_at key xs (λ i k. none (suc i) (omega arith)))
    ∙ sym (ap (λ b. cond (not b) (x ∷ without_key key xs) (without_key key xs))
    (none 0 (omega arith)))

-- all stand as before once the last that went is back too
pub one_back : (key : List ℕ) (rows rows2 : List Held) (ps ps2 : List Parted) → AreOrdered rows
    → rows2 ≡ without_key key rows → ps2 ≡ ps ++ option_to_list (parted_of key rows)
    → all_put ps2 rows2 ≡ all_put ps rows
one_back key rows rows2 ps ps2 h left went =
    (λ i. all_put (went i) (left i))
    ∙ all_append ps (option_to_list (parted_of key rows)) (without_key key rows)
    ∙ ap (all_put ps) (parted_back key rows h)

-- ---- the row that goes, among rows by their ages

abbrev pub behind : ℕ → Entries → Entries
behind a es = entries_between nat_cmp (Excluded a) Unbounded es

all_behind : (a : ℕ) (es : Entries) → Above a es → behind a es ≡ es
all_behind a [] all = refl
all_behind a (e ∷ es) all =
    ap (λ o. cond (is_lt o && true) (e ∷ behind a es) (behind a es)) all.0
    ∙ ap (λ l. e ∷ l) (all_behind a es all.1)

-- an age among those above another is above it
above_age : (key : List ℕ) (n a : ℕ) (es : Entries) → Above n es → age_of key es ≡ Some a
    → nat_cmp n a ≡ Less
above_age key n a [] all is = absurd (let no : ⊥ = cc in no)
above_age key n a (e ∷ es) all is =
    elim (bytes_eq key e.1.key) as (λ t. cond t (Some e.0) (age_of key es) ≡ Some a
    → nat_cmp n a ≡ Less) [
      | true ↦ λ f. ap (nat_cmp n) (sym (some_same e.0 a f)) ∙ all.0
      | false ↦ λ f. above_age key n a es all.1 f
    ] is

-- an age that is not above
not_behind : (a : ℕ) (e : ℕ × Held) (es : Entries) → is_lt (nat_cmp a e.0) ≡ false
    → behind a (e ∷ es) ≡ behind a es
not_behind a e es f = ap (λ b. cond (b && true) (e ∷ behind a es) (behind a es)) f

module _ (key : List ℕ) (a : ℕ) (r : Held) where
  one : (x : Held) → Some x ≡ Some r → x ≡ r
  one x e = grind arith

  pub parted_aged : (es : Entries) → IsStrictlySortedBy nat_cmp (keys_of es)
      → age_of key es ≡ Some a → lookup (at_age a) es ≡ Some r
      → parted_of key (rows_of es)
      ≡ Some (record { row = r; next = first_key (rows_of (behind a es)) })
  unfolding IsStrictlySortedBy
  parted_aged [] up is there = absurd (let no : ⊥ = cc in no)
  parted_aged (e ∷ es) up is there =
      elim (bytes_eq key e.1.key) as (λ t. cond t (Some e.0) (age_of key es) ≡ Some a
      → cond t (Some (record { row = e.1; next = first_key (rows_of es) }))
      (parted_of key (rows_of es))
      ≡ Some (record { row = r; next = first_key (rows_of (behind a (e ∷ es))) })) [
        | true ↦ λ f.
            let same = some_same e.0 a f in
            let row = one e.1 (sym (ap (λ b. cond b (Some e.1) (lookup (at_age a) es))
            (ap (λ n. at_age n e.0) (sym same) ∙ here e.0)) ∙ there) in
            let equal : nat_cmp a e.0 ≡ Equal = sym (nat_cmp_is a e.0 Equal (sym same)) in
            let rest = not_behind a e es (ap is_lt equal)
            ∙ all_behind a es (subst (λ n. Above n es) same up.0) in
            λ i. Some (record { row = row i; next = first_key (rows_of (sym rest i)) })
        | false ↦ λ f.
            let less = ranked e.0 a Less (sym (above_age key e.0 a es up.0 f)) in
            let above : nat_cmp a e.0 ≡ Greater = sym (nat_cmp_is a e.0 Greater less) in
            parted_aged es up.1 f
            (sym (ap (λ b. cond b (Some e.1) (lookup (at_age a) es))
            (not_among key e.0 a es up.0 f)) ∙ there)
            ∙ ap (λ l. Some (record { row = r; next = first_key (rows_of l) }))
            (sym (not_behind a e es (ap is_lt above)))
      ] is

pub parted_none : (key : List ℕ) (es : Entries) → age_of key es ≡ None
    → parted_of key (rows_of es) ≡ None
parted_none key [] is = refl
parted_none key (e ∷ es) is =
    elim (bytes_eq key e.1.key) as (λ t. cond t (Some e.0) (age_of key es) ≡ None
    → cond t (Some (record { row = e.1; next = first_key (rows_of es) }))
    (parted_of key (rows_of es)) ≡ None) [
      | true ↦ λ f. absurd (let no : ⊥ = cc in no)
      | false ↦ λ f. parted_none key es f
    ] is

pub first_of : (e : ℕ × Held) (es : Entries) → slice_get es 0 ≡ Some e
    → Some e.1.key ≡ first_key (rows_of es)
first_of e [] is = absurd (let no : ⊥ = cc in no)
first_of e (x ∷ es) is = grind arith

-- ---- the whole table, without the row that goes

module _ (limit : ℕ) (xs ys : List Held) (is : IsWhole limit xs ys)
    (key : List ℕ) where
  module _ (n : ℕ) (at : IsPlace key xs (Some n)) where
    pub front_rows : remove xs n ++ ys ≡ without_key key (xs ++ ys)
    front_rows = removed_at key ys xs n is.table.ordered at.0 at.1 at.2

    pub whole_parted : IsWhole limit (remove xs n) ys
    whole_parted = whole_front limit xs ys is (remove xs n)
        (subst IsTable (sym front_rows) (table_without_key key (xs ++ ys) is.table))

    pub front_back : (row : Held) (next : Option (List ℕ)) (ps ps2 : List Parted)
        → row ≡ get_or xs n nobody → next ≡ first_key (drop (n + 1) (xs ++ ys))
        → ps2 ≡ ps ++ record { row = row; next = next } ∷ []
        → all_put ps2 (remove xs n ++ ys) ≡ all_put ps (xs ++ ys)
    front_back row next ps ps2 r k went =
        let one : n + 1 ≡ suc n = omega arith in
        one_back key (xs ++ ys) (remove xs n ++ ys) ps ps2 is.table.ordered front_rows
        (went
        ∙ (λ i. ps ++ record {
          row = r i;
          next = (k ∙ ap (λ m. first_key (drop m (xs ++ ys))) one) i;
        } ∷ [])
        ∙ ap (λ o. ps ++ option_to_list o) (sym (parted_at key ys xs n at.0 at.1 at.2)))

  module _ (none : NoneBefore key xs (length xs)) (ys2 : List Held)
      (new : ys2 ≡ without_key key ys) where
    pub behind_rows : xs ++ ys2 ≡ without_key key (xs ++ ys)
    behind_rows = (λ i. none_at key xs none i ++ new i) ∙ sym (without_key_parts key xs ys)

    pub whole_behind : IsWhole limit xs ys2
    whole_behind = whole_without_key limit xs ys is key xs ys2 (none_at key xs none) new

    pub behind_back : (ps ps2 : List Parted) → ps2 ≡ ps ++ option_to_list (parted_of key ys)
        → all_put ps2 (xs ++ ys2) ≡ all_put ps (xs ++ ys)
    behind_back ps ps2 went =
        one_back key (xs ++ ys) (xs ++ ys2) ps ps2 is.table.ordered behind_rows
        (went ∙ ap (λ o. ps ++ option_to_list o) (sym (parted_behind key ys xs none)))

-- there is room for all rows that there were
pub room_for : (ps : List Parted) (rows old : List Held) (room : ℕ) → all_put ps rows ≡ old
    → length old ≤ room → length rows + length ps ≤ room
room_for ps rows old room back le =
    let all = put_more ps rows in
    let same = ap length back in
    omega (arith, all, same, le)

-- ---- keys that nobody remembers

pub none_held : (key : List ℕ) (rs : List Held) → AreHeld rs → holders_of key rs ≡ []
    → without_key key rs ≡ rs
none_held key [] held none = refl
none_held key (r ∷ rs) held none =
    elim (bytes_eq key r.key) as (λ t. cond t r.holders (holders_of key rs) ≡ []
    → cond (not t) (r ∷ without_key key rs) (without_key key rs) ≡ r ∷ rs) [
      | true ↦ λ f.
          let empty = ap length f in
          let some = held.0 in
          absurd (omega (arith, empty, some))
      | false ↦ λ f. ap (λ l. r ∷ l) (none_held key rs held.1 f)
    ] none

pub nobody_left : (hs : List ℕ) (empty : Bool) → empty ≡ (length hs == 0) → empty ≡ true
    → hs ≡ []
nobody_left [] empty is none = refl
nobody_left (h ∷ hs) empty is none =
    let other = ne_eqb (length (h ∷ hs)) 0 (λ z. omega (arith, z)) in
    let no : true ≡ false = sym none ∙ is ∙ other in
    absurd (let no : ⊥ = cc in no)
