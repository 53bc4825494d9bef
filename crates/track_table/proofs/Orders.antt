-- Each call leaves keys that are there once and are held, and holders that ascend.
use Rattle.std.proofs.Common.{◌≡◌, ◌≤◌, ℕ, List, [], ◌∷◌, Bool, true, false, cond, length, ◌-◌}
use Rattle.std.proofs.Common.{◌++◌, map, take, drop, refl, ap, sym, ◌∙◌, arith}
use Rattle.std.specs.Prelude.{filter}
use Prim.Native.Nat.{zero, suc}
use Rattle.std.specs.Str.{bytes_eq}
use Rattle.std.proofs.lemmas.Slice.Eq.{bytes_eq-Decides}
use Rattle.std.proofs.lemmas.Bool.Decides.{nat_tests}
use Rattle.std.proofs.lemmas.List.{length-drop, take_all, take-append-le}
use Rattle.id_set.proofs.Orders.{ascend_with, ascend_without, with_some}
use Rattle.track_table.specs.declared.table.Held.{Held}
use Rattle.id_set.specs.Ids.{Ascend, with_id}
use Rattle.track_table.specs.Table.{remembered, without_key, without_connection, freed_of, is_held}
use Rattle.track_table.specs.Table.{holders_of}
use Rattle.track_table.specs.Order.{HasNo, AreOrdered, AreHeld, IsTable}

pub same_bytes : (a b : List ℕ) → bytes_eq a b ≡ true → a ≡ b
same_bytes a b e = (bytes_eq-Decides a b).0 e

pub not_same : (a b : List ℕ) → bytes_eq a b ≡ false → a ≡ b → ⊥
not_same a b e same = let t = (bytes_eq-Decides a b).1 same in let no : ⊥ = cc in no

-- keys that differ one way differ the other
pub apart : (a b : List ℕ) → bytes_eq a b ≡ false → bytes_eq b a ≡ false
apart a b e = elim (bytes_eq b a) as (λ v. bytes_eq b a ≡ v → v ≡ false) [
  | true ↦ λ f. absurd (not_same a b e (sym (same_bytes b a f)))
  | false ↦ λ f. refl
] refl

has_no_remembered : (q : List ℕ) (id : ℕ) (key : List ℕ) (rs : List Held) → HasNo q rs
    → bytes_eq q key ≡ false
    → HasNo q (remembered id key rs)
has_no_remembered q id key [] h other = (other, tt)
has_no_remembered q id key (r ∷ rs) h other = grind (arith, has_no_remembered q id key rs h.1 other)

ordered_remembered : (id : ℕ) (key : List ℕ) (rs : List Held) → AreOrdered rs
    → AreOrdered (remembered id key rs)
ordered_remembered id key [] h = ((omega arith, tt), tt, tt)
ordered_remembered id key (r ∷ rs) h =
    grind (arith, ascend_with, has_no_remembered, apart, ordered_remembered id key rs h.2)

held_remembered : (id : ℕ) (key : List ℕ) (rs : List Held) → AreHeld rs
    → AreHeld (remembered id key rs)
held_remembered id key [] h = (omega arith, tt)
held_remembered id key (r ∷ rs) h = grind (arith, with_some, held_remembered id key rs h.1)

pub table_remembered : (id : ℕ) (key : List ℕ) (rs : List Held) → IsTable rs
    → IsTable (remembered id key rs)
table_remembered id key rs h = grind (arith, ordered_remembered, held_remembered, nat_tests)

module _ (p : Held → Bool) where
  has_no_filter : (q : List ℕ) (rs : List Held) → HasNo q rs → HasNo q (filter p rs)
  has_no_filter q [] h = tt
  has_no_filter q (r ∷ rs) h = grind (arith, has_no_filter q rs h.1)

  ordered_filter : (rs : List Held) → AreOrdered rs → AreOrdered (filter p rs)
  ordered_filter [] h = tt
  ordered_filter (r ∷ rs) h = grind (arith, has_no_filter, ordered_filter rs h.2)

  held_filter : (rs : List Held) → AreHeld rs → AreHeld (filter p rs)
  held_filter [] h = tt
  held_filter (r ∷ rs) h = grind (arith, held_filter rs h.1)

pub table_without_key : (key : List ℕ) (rs : List Held) → IsTable rs → IsTable (without_key key rs)
table_without_key key rs h = grind (arith, ordered_filter, held_filter, nat_tests)

module _ (id : ℕ) where
  has_no_freed : (q : List ℕ) (rs : List Held) → HasNo q rs → HasNo q (map (freed_of id) rs)
  has_no_freed q [] h = tt
  has_no_freed q (r ∷ rs) h = (h.0, has_no_freed q rs h.1)

  ordered_freed : (rs : List Held) → AreOrdered rs → AreOrdered (map (freed_of id) rs)
  ordered_freed [] h = tt
  ordered_freed (r ∷ rs) h = grind (arith, ascend_without, has_no_freed, ordered_freed rs h.2)

held_kept : (rs : List Held) → AreHeld (filter is_held rs)
held_kept [] = tt
held_kept (r ∷ rs) = grind (arith, held_kept rs)

pub table_without_connection : (id : ℕ) (rs : List Held) → IsTable rs
    → IsTable (without_connection id rs)
table_without_connection id rs h = grind (arith, ordered_filter, ordered_freed, held_kept)

-- the holders of a key ascend
pub holders_ascend : (key : List ℕ) (rs : List Held) → IsTable rs → Ascend (holders_of key rs)
holders_ascend key rs h = ascending rs h.ordered
  where
    ascending : (xs : List Held) → AreOrdered xs → Ascend (holders_of key xs)
    ascending [] h = tt
    ascending (x ∷ xs) h = grind (arith, ascending xs h.2)

-- remembering a key changes its own holders alone
pub holders_remembered : (q : List ℕ) (id : ℕ) (key : List ℕ) (rs : List Held)
    → holders_of q (remembered id key rs)
    ≡ cond (bytes_eq q key) (with_id id (holders_of key rs)) (holders_of q rs)
holders_remembered q id key [] = refl
holders_remembered q id key (r ∷ rs) =
    elim (bytes_eq key r.key) as (λ b. bytes_eq key r.key ≡ b
    → holders_of q (cond b (record r { holders = with_id id r.holders } ∷ rs)
    (r ∷ remembered id key rs))
    ≡ cond (bytes_eq q key) (with_id id (cond b r.holders (holders_of key rs)))
    (cond (bytes_eq q r.key) r.holders (holders_of q rs))) [
      | true ↦ λ e. ap (λ k. cond (bytes_eq q k) (with_id id r.holders) (holders_of q rs))
          (sym (same_bytes key r.key e))
          ∙ changed (bytes_eq q key) (bytes_eq q r.key) (with_id id r.holders) r.holders
          (holders_of q rs) (ap (bytes_eq q) (same_bytes key r.key e))
      | false ↦ λ e. ap (λ x. cond (bytes_eq q r.key) r.holders x) (holders_remembered q id key rs)
          ∙ swapped (bytes_eq q r.key) (bytes_eq q key) r.holders
          (with_id id (holders_of key rs)) (holders_of q rs)
          (λ a b. not_same key r.key e (sym (same_bytes q key b) ∙ same_bytes q r.key a))
    ] refl
  where
    changed : (a b : Bool) (x y z : List ℕ) → a ≡ b → cond a x z ≡ cond a x (cond b y z)
    changed a b h y z e = grind (arith, nat_tests)

    swapped : (a b : Bool) (x y z : List ℕ) → (a ≡ true → b ≡ true → ⊥)
        → cond a x (cond b y z) ≡ cond b y (cond a x z)
    swapped a b e y z differ = grind (arith, nat_tests)

-- the rows behind the first
pub table_drop : (n : ℕ) (rs : List Held) → IsTable rs → IsTable (drop n rs)
table_drop zero rs h = h
table_drop (suc n) [] h = h
table_drop (suc n) (r ∷ rs) h =
    table_drop n rs (record { ordered = h.ordered.2; held = h.held.1 })

-- what is left of the rows that were turned until the first stand last
pub cut : (n : ℕ) (rs : List Held) → n ≤ length rs
    → take (length rs - n) (drop n rs ++ take n rs) ≡ drop n rs
cut n rs le = grind (arith, take-append-le, length-drop, take_all, nat_tests)
