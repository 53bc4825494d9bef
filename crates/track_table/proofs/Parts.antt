-- A table in two parts.
use Rattle.std.proofs.Common.{◌≡◌, ◌==◌, ◌<◌, ◌≤◌, ◌+◌, ◌-◌, ℕ, List, [], ◌∷◌, ◌++◌, Bool, true}
use Rattle.std.proofs.Common.{false}
use Rattle.std.proofs.Common.{cond, ◌||◌, ap, sym, ◌∙◌, refl, arith, subst, eq-eqb, inl, inr, not}
use Rattle.std.proofs.Common.{length, take, drop, ne_eqb}
use Prim.Native.Nat.{zero, suc}
use Rattle.std.specs.List.{list_any}
use Rattle.std.specs.Str.{bytes_eq}
use Rattle.std.proofs.lemmas.Bool.{cases_Bool, eqb-true}
use Rattle.std.proofs.lemmas.Bool.Decides.{nat_tests}
use Rattle.std.proofs.lemmas.Grind.{common_steps}
use Rattle.id_set.specs.Ids.{with_id, without_id}
use Rattle.track_table.specs.declared.table.Held.{Held}
use Rattle.track_table.specs.Table.{holders_of, remembered, released, without_key, freed_of}
use Rattle.track_table.specs.Table.{is_held}
use Rattle.track_table.specs.Table.{without_connection}
use Rattle.track_table.specs.Places.{NoneBefore, key_at}
use Rattle.track_table.specs.Order.{HasNo, AreOrdered, IsTable, IsWhole}
use Rattle.track_table.proofs.Orders.{table_without_key, table_without_connection, table_remembered}
use Rattle.track_table.proofs.Releases.{table_released}
use Rattle.track_table.proofs.Orders.{same_bytes, not_same, apart}
use Rattle.track_table.proofs.Releases.{itself}
use Rattle.id_set.proofs.Members.{without_same}

module _ (key : List ℕ) where
  pub is_in : List Held → Bool
  is_in [] = false
  is_in (r ∷ rs) = bytes_eq key r.key || is_in rs

  pub in_at : (rs : List Held) (n : ℕ) → n < length rs → bytes_eq key (key_at rs n) ≡ true
      → is_in rs ≡ true
  unfolding is_in
  in_at [] n lt is = absurd (omega arith)
  in_at (r ∷ rs) zero lt is = ap (λ b. b || is_in rs) is
  in_at (r ∷ rs) (suc n) lt is =
      let rest = in_at rs n (omega arith) is in grind arith

  pub in_none : (rs : List Held) → NoneBefore key rs (length rs) → is_in rs ≡ false
  unfolding is_in
  in_none [] none = refl
  in_none (r ∷ rs) none =
      ap (λ b. b || is_in rs) (none 0 (omega arith))
      ∙ in_none rs (λ i k. none (suc i) (omega arith))

  pub holders_parts : (xs ys : List Held) → holders_of key (xs ++ ys)
      ≡ cond (is_in xs) (holders_of key xs) (holders_of key ys)
  unfolding is_in
  holders_parts [] ys = refl
  holders_parts (r ∷ xs) ys = grind (arith, common_steps, holders_parts xs ys)

  pub remembered_parts : (id : ℕ) (xs ys : List Held) → remembered id key (xs ++ ys)
      ≡ cond (is_in xs) (remembered id key xs ++ ys) (xs ++ remembered id key ys)
  unfolding is_in
  remembered_parts id [] ys = refl
  remembered_parts id (r ∷ xs) ys = grind (arith, common_steps, remembered_parts id xs ys)

  pub released_parts : (id : ℕ) (xs ys : List Held) → released id key (xs ++ ys)
      ≡ cond (is_in xs) (released id key xs ++ ys) (xs ++ released id key ys)
  unfolding is_in
  released_parts id [] ys = refl
  released_parts id (r ∷ xs) ys = grind (arith, common_steps, released_parts id xs ys)

  pub without_key_parts : (xs ys : List Held)
      → without_key key (xs ++ ys) ≡ without_key key xs ++ without_key key ys
  without_key_parts [] ys = refl
  without_key_parts (r ∷ xs) ys = grind (arith, common_steps, without_key_parts xs ys)

pub without_connection_parts : (id : ℕ) (xs ys : List Held)
    → without_connection id (xs ++ ys) ≡ without_connection id xs ++ without_connection id ys
without_connection_parts id [] ys = refl
without_connection_parts id (r ∷ xs) ys =
    grind (arith, common_steps, without_connection_parts id xs ys)

pub table_back : (xs ys : List Held) → IsTable (xs ++ ys) → IsTable ys
table_back [] ys is = is
table_back (x ∷ xs) ys is = table_back xs ys (record { ordered = is.ordered.2; held = is.held.1 })

pub drop_front : (n : ℕ) (xs ys : List Held) → n ≤ length xs → drop n (xs ++ ys) ≡ drop n xs ++ ys
drop_front zero xs ys le = refl
drop_front (suc n) [] ys le = absurd (omega arith)
drop_front (suc n) (x ∷ xs) ys le = drop_front n xs ys (omega arith)

pub take_front : (n : ℕ) (xs ys : List Held) → n ≤ length xs → take n (xs ++ ys) ≡ take n xs
take_front zero xs ys le = refl
take_front (suc n) [] ys le = absurd (omega arith)
take_front (suc n) (x ∷ xs) ys le = ap (λ l. x ∷ l) (take_front n xs ys (omega arith))

-- ---- the holders of a key after each change

no_holders : (key : List ℕ) (rs : List Held) → HasNo key rs → holders_of key rs ≡ []
no_holders key [] h = refl
no_holders key (r ∷ rs) h =
    ap (λ b. cond b r.holders (holders_of key rs)) h.0 ∙ no_holders key rs h.1

abbrev pub held_by : ℕ → List ℕ → Bool
held_by i hs = list_any (λ h. h == i) hs

pub left_any : (i id : ℕ) (hs : List ℕ) → held_by i (without_id id hs) ≡ true → held_by i hs ≡ true
left_any i id [] is = is
left_any i id (h ∷ hs) is = grind (arith, common_steps, left_any i id hs)

pub left_none : (id : ℕ) (hs : List ℕ) → held_by id (without_id id hs) ≡ false
left_none id [] = refl
left_none id (h ∷ hs) = grind (arith, common_steps, left_none id hs)

pub with_any : (i id : ℕ) (hs : List ℕ) → (i == id) ≡ false → held_by i (with_id id hs) ≡ true
    → held_by i hs ≡ true
with_any i id [] other is = grind (arith, common_steps, eq-eqb, eqb-true, ne_eqb)
with_any i id (h ∷ hs) other is =
    grind (arith, common_steps, with_any i id hs other, eq-eqb, eqb-true, ne_eqb)

none_held : (i : ℕ) (hs : List ℕ) {A : Type 0} → hs ≡ [] → held_by i hs ≡ true → A
none_held i hs e is =
    let f : false ≡ true = sym (ap (held_by i) e) ∙ is in absurd (let no : ⊥ = cc in no)

pub released_other : (q key : List ℕ) (id : ℕ) (rs : List Held) → bytes_eq q key ≡ false
    → holders_of q (released id key rs) ≡ holders_of q rs
released_other q key id [] other = refl
released_other q key id (r ∷ rs) other =
    elim (bytes_eq key r.key) as (λ t. bytes_eq key r.key ≡ t
    → holders_of q (cond t (cond (is_held (freed_of id r)) (freed_of id r ∷ rs) rs)
    (r ∷ released id key rs)) ≡ holders_of q (r ∷ rs)) [
      | true ↦ λ t.
          same (is_held (freed_of id r)) (ap (bytes_eq q) (sym (same_bytes key r.key t)) ∙ other)
      | false ↦ λ t. ap (λ x. cond (bytes_eq q r.key) r.holders x) (released_other q key id rs
          other)
    ] refl
  where
    same : (b : Bool) → bytes_eq q r.key ≡ false
        → holders_of q (cond b (freed_of id r ∷ rs) rs) ≡ holders_of q (r ∷ rs)
    same true apart = ap (λ t. cond t (without_id id r.holders) (holders_of q rs)) apart
        ∙ sym (ap (λ t. cond t r.holders (holders_of q rs)) apart)
    same false apart = sym (ap (λ t. cond t r.holders (holders_of q rs)) apart)

-- what a key that one connection left has is held by others, who held it before
pub released_own : (i id : ℕ) (key : List ℕ) (rs : List Held) → AreOrdered rs
    → held_by i (holders_of key (released id key rs)) ≡ true
    → ((i == id) ≡ false) × (held_by i (holders_of key rs) ≡ true)
released_own i id key [] h is = absurd (let no : ⊥ = cc in no)
released_own i id key (r ∷ rs) h is =
    elim (bytes_eq key r.key) as (λ t. bytes_eq key r.key ≡ t
    → held_by i (holders_of key (cond t (cond (is_held (freed_of id r)) (freed_of id r ∷ rs) rs)
    (r ∷ released id key rs))) ≡ true
    → ((i == id) ≡ false) × (held_by i (cond t r.holders (holders_of key rs)) ≡ true)) [
      | true ↦ λ t f. own t (is_held (freed_of id r)) f
      | false ↦ λ t f. released_own i id key rs h.2
          (sym (ap (λ b. held_by i (cond b r.holders (holders_of key (released id key rs)))) t) ∙ f)
    ] refl is
  where
    own : bytes_eq key r.key ≡ true → (b : Bool)
        → held_by i (holders_of key (cond b (freed_of id r ∷ rs) rs)) ≡ true
        → ((i == id) ≡ false) × (held_by i r.holders ≡ true)
    own t true f =
        let g : held_by i (without_id id r.holders) ≡ true =
        sym (ap (λ b. held_by i (cond b (without_id id r.holders) (holders_of key rs))) t) ∙ f in (
          elim (cases_Bool (i == id)) [
            | inl same ↦
                let n = left_none id r.holders in
                let m : held_by id (without_id id r.holders) ≡ true =
                ap (λ x. held_by x (without_id id r.holders)) (sym (eqb-true i id same)) ∙ g in
                absurd (let no : ⊥ = cc in no)
            | inr other ↦ other
          ],
          left_any i id r.holders g,
        )
    own t false f = none_held i (holders_of key rs)
        (no_holders key rs (subst (λ k. HasNo k rs) (sym (same_bytes key r.key t)) h.1)) f

pub without_key_holders : (q key : List ℕ) (rs : List Held)
    → holders_of q (without_key key rs) ≡ cond (bytes_eq q key) [] (holders_of q rs)
without_key_holders q key [] = grind (arith, common_steps)
without_key_holders q key (r ∷ rs) =
    elim (bytes_eq key r.key) as (λ t. bytes_eq key r.key ≡ t
    → holders_of q (cond (not t) (r ∷ without_key key rs) (without_key key rs))
    ≡ cond (bytes_eq q key) [] (holders_of q (r ∷ rs))) [
      | true ↦ λ t. without_key_holders q key rs
          ∙ same (bytes_eq q key) (bytes_eq q r.key) r.holders (holders_of q rs)
          (ap (bytes_eq q) (same_bytes key r.key t))
      | false ↦ λ t. ap (λ x. cond (bytes_eq q r.key) r.holders x) (without_key_holders q key rs)
          ∙ other (bytes_eq q key) (bytes_eq q r.key) r.holders (holders_of q rs)
          (λ k s. not_same key r.key t (sym (same_bytes q key k) ∙ same_bytes q r.key s))
    ] refl
  where
    same : (b c : Bool) (x o : List ℕ) → b ≡ c → cond b [] o ≡ cond b [] (cond c x o)
    same b c x o e = grind (arith, nat_tests)

    other : (b c : Bool) (x o : List ℕ) → (b ≡ true → c ≡ true → ⊥)
        → cond c x (cond b [] o) ≡ cond b [] (cond c x o)
    other b c x o differ = grind (arith, nat_tests)

none_left : (id : ℕ) (hs : List ℕ) → not (length (without_id id hs) == 0) ≡ false
    → without_id id hs ≡ []
none_left id hs e = nothing (without_id id hs) e
  where
    nothing : (xs : List ℕ) → not (length xs == 0) ≡ false → xs ≡ []
    nothing [] f = refl
    nothing (x ∷ xs) f =
        let e : (length (x ∷ xs) == 0) ≡ false = ne_eqb (length (x ∷ xs)) 0 (λ z. omega (
          arith,
          z,
        )) in
        let g : true ≡ false = sym (ap not e) ∙ f in absurd (let no : ⊥ = cc in no)

pub without_connection_holders : (q : List ℕ) (id : ℕ) (rs : List Held) → AreOrdered rs
    → holders_of q (without_connection id rs) ≡ without_id id (holders_of q rs)
without_connection_holders q id [] h = refl
without_connection_holders q id (r ∷ rs) h =
    elim (is_held (freed_of id r)) as (λ b. is_held (freed_of id r) ≡ b
    → holders_of q (cond b (freed_of id r ∷ without_connection id rs) (without_connection id rs))
    ≡ without_id id (holders_of q (r ∷ rs))) [
      | true ↦ λ b. ap (λ x. cond (bytes_eq q r.key) (without_id id r.holders) x)
          (without_connection_holders q id rs h.2)
          ∙ moved (bytes_eq q r.key)
      | false ↦ λ b. without_connection_holders q id rs h.2
          ∙ gone (bytes_eq q r.key) refl (none_left id r.holders b)
    ] refl
  where
    moved : (t : Bool) → cond t (without_id id r.holders) (without_id id (holders_of q rs))
        ≡ without_id id (cond t r.holders (holders_of q rs))
    moved true = refl
    moved false = refl

    gone : (t : Bool) → bytes_eq q r.key ≡ t → without_id id r.holders ≡ []
        → without_id id (holders_of q rs) ≡ without_id id (cond t r.holders (holders_of q rs))
    gone true t e =
        ap (without_id id) (no_holders q rs (subst (λ k. HasNo k rs)
        (sym (same_bytes q r.key t)) h.1)) ∙ sym e
    gone false t e = refl

-- ---- all keys of a connection are released

twice : (id : ℕ) (hs : List ℕ) → without_id id (without_id id hs) ≡ without_id id hs
twice id [] = refl
twice id (h ∷ hs) = grind (arith, common_steps, twice id hs)

pub released_first : (id : ℕ) (key : List ℕ) (rs : List Held)
    → without_connection id (released id key rs) ≡ without_connection id rs
released_first id key [] = refl
released_first id key (r ∷ rs) =
    elim (bytes_eq key r.key) as (λ t.
    without_connection id (cond t (cond (is_held (freed_of id r)) (freed_of id r ∷ rs) rs)
    (r ∷ released id key rs)) ≡ without_connection id (r ∷ rs)) [
      | true ↦ own (is_held (freed_of id r)) refl
      | false ↦ ap (λ l. cond (is_held (freed_of id r)) (freed_of id r ∷ l) l)
          (released_first id key rs)
    ]
  where
    own : (b : Bool) → is_held (freed_of id r) ≡ b
        → without_connection id (cond b (freed_of id r ∷ rs) rs) ≡ without_connection id (r ∷ rs)
    own true e = ap (λ hs. cond (not (length hs == 0))
        (record { key = r.key; holders = hs } ∷ without_connection id rs)
        (without_connection id rs)) (twice id r.holders)
    own false e = sym (ap (λ b. cond b (freed_of id r ∷ without_connection id rs)
        (without_connection id rs)) e)

pub all_left : (id : ℕ) (rs : List Held) → IsTable rs
    → ((q : List ℕ) → held_by id (holders_of q rs) ≡ false) → without_connection id rs ≡ rs
all_left id [] is none = refl
all_left id (r ∷ rs) is none =
    let own = without_same id r.holders
    (sym (ap (λ b. held_by id (cond b r.holders (holders_of r.key rs))) (itself r.key))
    ∙ none r.key) in
    let held : not (length r.holders == 0) ≡ true =
    let h = is.held.0 in grind (arith, nat_tests, ne_eqb) in
    ap (λ hs. cond (not (length hs == 0))
    (record { key = r.key; holders = hs } ∷ without_connection id rs)
    (without_connection id rs)) own
    ∙ ap (λ b. cond b (r ∷ without_connection id rs) (without_connection id rs)) held
    ∙ ap (λ l. r ∷ l) (all_left id rs (record { ordered = is.ordered.2; held = is.held.1 })
    (λ q. by q (bytes_eq q r.key) refl))
  where
    by : (q : List ℕ) (b : Bool) → bytes_eq q r.key ≡ b → held_by id (holders_of q rs) ≡ false
    by q true t = ap (held_by id) (no_holders q rs
        (subst (λ k. HasNo k rs) (sym (same_bytes q r.key t)) is.ordered.1))
    by q false t =
        sym (ap (λ b. held_by id (cond b r.holders (holders_of q rs))) t) ∙ none q

-- ---- how many rows are left

pub length_parts : (xs ys : List Held) → length (xs ++ ys) ≡ length xs + length ys
length_parts [] ys = omega arith
length_parts (x ∷ xs) ys = let rest = length_parts xs ys in omega (arith, rest)

pub released_fewer : (id : ℕ) (key : List ℕ) (rs : List Held)
    → length (released id key rs) ≤ length rs
released_fewer id key [] = omega arith
released_fewer id key (r ∷ rs) = grind (arith, common_steps, released_fewer id key rs)

pub remembered_one : (id : ℕ) (key : List ℕ) (rs : List Held)
    → length (remembered id key rs) ≤ length rs + 1
remembered_one id key [] = omega arith
remembered_one id key (r ∷ rs) = grind (arith, common_steps, remembered_one id key rs)

pub key_fewer : (key : List ℕ) (rs : List Held) → length (without_key key rs) ≤ length rs
key_fewer key [] = omega arith
key_fewer key (r ∷ rs) = grind (arith, common_steps, key_fewer key rs)

pub connection_fewer : (id : ℕ) (rs : List Held)
    → length (without_connection id rs) ≤ length rs
connection_fewer id [] = omega arith
connection_fewer id (r ∷ rs) = grind (arith, common_steps, connection_fewer id rs)

-- ---- the whole table after each change

module _ (limit : ℕ) (xs ys : List Held) (is : IsWhole limit xs ys) where
  pub whole_table : IsTable ys
  whole_table = table_back xs ys is.table

  pub released_in : (id n : ℕ) (key : List ℕ) → n < length xs
      → bytes_eq key (key_at xs n) ≡ true
      → released id key xs ++ ys ≡ released id key (xs ++ ys)
  released_in id n key lt at =
      sym (released_parts key id xs ys ∙ ap (λ b. cond b (released id key xs ++ ys)
      (xs ++ released id key ys)) (in_at key xs n lt at))

  pub remembered_in : (id n : ℕ) (key : List ℕ) → n < length xs
      → bytes_eq key (key_at xs n) ≡ true
      → remembered id key xs ++ ys ≡ remembered id key (xs ++ ys)
  remembered_in id n key lt at =
      sym (remembered_parts key id xs ys ∙ ap (λ b. cond b (remembered id key xs ++ ys)
      (xs ++ remembered id key ys)) (in_at key xs n lt at))

  pub released_behind : (id : ℕ) (key : List ℕ) → NoneBefore key xs (length xs)
      → xs ++ released id key ys ≡ released id key (xs ++ ys)
  released_behind id key none =
      sym (released_parts key id xs ys ∙ ap (λ b. cond b (released id key xs ++ ys)
      (xs ++ released id key ys)) (in_none key xs none))

  pub remembered_behind : (id : ℕ) (key : List ℕ) → NoneBefore key xs (length xs)
      → xs ++ remembered id key ys ≡ remembered id key (xs ++ ys)
  remembered_behind id key none =
      sym (remembered_parts key id xs ys ∙ ap (λ b. cond b (remembered id key xs ++ ys)
      (xs ++ remembered id key ys)) (in_none key xs none))

  pub whole_front : (xs2 : List Held) → IsTable (xs2 ++ ys) → IsWhole limit xs2 ys
  whole_front xs2 table = record { table = table; most = is.most }

  pub whole_released : (id : ℕ) (key : List ℕ) (ys2 : List Held)
      → NoneBefore key xs (length xs) → ys2 ≡ released id key ys
      → IsWhole limit xs ys2
  whole_released id key ys2 none new = record {
    table = subst IsTable (sym (ap (λ l. xs ++ l) new ∙ released_behind id key none))
        (table_released id key (xs ++ ys) is.table);
    most =
        let fewer = released_fewer id key ys in
        let same = ap length new in
        omega (arith, is.most, fewer, same);
  }

  pub whole_without_key : (key : List ℕ) (xs2 ys2 : List Held)
      → xs2 ≡ without_key key xs → ys2 ≡ without_key key ys
      → IsWhole limit xs2 ys2
  whole_without_key key xs2 ys2 front new = record {
    table = subst IsTable (sym ((λ i. front i ++ new i) ∙ sym (without_key_parts key xs ys)))
        (table_without_key key (xs ++ ys) is.table);
    most =
        let fewer = key_fewer key ys in
        let same = ap length new in
        omega (arith, is.most, fewer, same);
  }

  pub whole_without_connection : (id : ℕ) (xs2 ys2 : List Held)
      → xs2 ≡ without_connection id xs → ys2 ≡ without_connection id ys
      → IsWhole limit xs2 ys2
  whole_without_connection id xs2 ys2 front new = record {
    table = subst IsTable (sym ((λ i. front i ++ new i) ∙ sym (without_connection_parts id xs ys)))
        (table_without_connection id (xs ++ ys) is.table);
    most =
        let fewer = connection_fewer id ys in
        let same = ap length new in
        omega (arith, is.most, fewer, same);
  }

  pub over_front : (n : ℕ) → n ≡ length (xs ++ ys) - limit → n ≤ length xs
  over_front n e = let all = length_parts xs ys in omega (arith, e, all, is.most)

  -- the connection holds the key too, in a table of no more keys than the limit
  pub whole_remembered : (id : ℕ) (key : List ℕ) (xs2 ys2 : List Held)
      → NoneBefore key xs (length xs) → xs2 ≡ xs → ys2 ≡ remembered id key ys
      → length ys2 ≤ limit → IsWhole limit xs2 ys2
  whole_remembered id key xs2 ys2 none front new most = record {
    table = subst IsTable (sym ((λ i. front i ++ new i) ∙ remembered_behind id key none))
        (table_remembered id key (xs ++ ys) is.table);
    most = most;
  }

  module _ (id : ℕ) (key : List ℕ) (r : Held) (xs3 ys2 ys3 : List Held)
      (none : NoneBefore key xs (length xs)) (front : xs3 ≡ xs ++ r ∷ [])
      (new : ys2 ≡ remembered id key ys) (first : ys2 ≡ r ∷ ys3) where
    pub retired_rows : xs3 ++ ys3 ≡ remembered id key (xs ++ ys)
    retired_rows =
        ap (λ l. l ++ ys3) front ∙ over xs ∙ ap (λ l. xs ++ l) (sym first ∙ new)
        ∙ remembered_behind id key none
      where
        over : (zs : List Held) → (zs ++ r ∷ []) ++ ys3 ≡ zs ++ r ∷ ys3
        over [] = refl
        over (z ∷ zs) = ap (λ l. z ∷ l) (over zs)

    -- and the oldest of the keys that are found went to those that stand by themselves
    pub whole_retired : IsWhole limit xs3 ys3
    whole_retired = record {
      table = subst IsTable (sym retired_rows) (table_remembered id key (xs ++ ys) is.table);
      most =
          let one = remembered_one id key ys in
          let same = ap length (sym first ∙ new) in
          omega (arith, is.most, one, same);
    }
