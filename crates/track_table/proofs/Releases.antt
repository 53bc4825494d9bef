-- A connection that holds a key no more: where its row is, and that what was new goes again.
use Rattle.std.proofs.Common.{◌≡◌, ◌+◌, ◌<◌, ℕ, List, [], ◌∷◌, ◌++◌, true, false, cond, length}
use Rattle.std.proofs.Common.{get_or, set, remove, refl, ap, ◌∙◌, arith, eq-eqb}
use Rattle.std.specs.Prelude.{◌==◌, not}
use Rattle.std.specs.List.{list_any}
use Prim.Native.Nat.{zero, suc}
use Rattle.std.specs.Str.{bytes_eq}
use Rattle.std.proofs.lemmas.Slice.Eq.{bytes_eq-Decides}
use Rattle.std.proofs.lemmas.Bool.Decides.{nat_tests}
use Rattle.track_table.specs.declared.table.Held.{Held}
use Rattle.id_set.specs.Ids.{with_id}
use Rattle.track_table.specs.Table.{holders_of, remembered, with_keys, freed_of, is_held, released}
use Rattle.track_table.specs.Table.{all_released}
use Rattle.track_table.specs.Places.{nobody, NoneBefore, key_at}
use Rattle.track_table.specs.Order.{HasNo, AreOrdered, AreHeld, IsTable}
use Rattle.id_set.proofs.Members.{with_held, without_with}
use Rattle.id_set.proofs.Orders.{ascend_without}

-- ---- at the first row with the key

module _ (id : ℕ) (key : List ℕ) where
  abbrev left : Held → List Held → List Held
  left r rs = cond (is_held (freed_of id r)) (freed_of id r ∷ rs) rs

  pub released_kept : (rs : List Held) (n : ℕ) → n < length rs → bytes_eq key (key_at rs n) ≡ true
      → NoneBefore key rs n → is_held (freed_of id (get_or rs n nobody)) ≡ true
      → released id key rs ≡ set rs n (freed_of id (get_or rs n nobody))
  released_kept [] n lt is before held = absurd (omega arith)
  released_kept (r ∷ rs) zero lt is before held = grind (arith, left)
  released_kept (r ∷ rs) (suc n) lt is before held =
      ap (λ b. cond b (left r rs) (r ∷ released id key rs)) (before 0 (omega arith))
      ∙ ap (λ l. r ∷ l) (released_kept rs n (omega arith) is
      (λ i k. before (suc i) (omega arith)) held)

  pub released_gone : (rs : List Held) (n : ℕ) (x : Held) → n < length rs
      → bytes_eq key (key_at rs n) ≡ true
      → NoneBefore key rs n → is_held (freed_of id (get_or rs n nobody)) ≡ false
      → released id key rs ≡ remove (set rs n x) n
  released_gone [] n e lt is before held = absurd (omega arith)
  released_gone (r ∷ rs) zero e lt is before held = grind arith
  released_gone (r ∷ rs) (suc n) x lt is before held =
      ap (λ b. cond b (left r rs) (r ∷ released id key rs)) (before 0 (omega arith))
      ∙ ap (λ l. r ∷ l) (released_gone rs n x (omega arith) is
      (λ i k. before (suc i) (omega arith)) held)

  -- ---- what is left is a table

  has_no_released : (q : List ℕ) (rs : List Held) → HasNo q rs → HasNo q (released id key rs)
  has_no_released q [] h = tt
  has_no_released q (r ∷ rs) h = grind (arith, has_no_released q rs h.1)

  ordered_released : (rs : List Held) → AreOrdered rs → AreOrdered (released id key rs)
  ordered_released [] h = tt
  ordered_released (r ∷ rs) h =
      grind (arith, ascend_without, has_no_released, ordered_released rs h.2)

  held_released : (rs : List Held) → AreHeld rs → AreHeld (released id key rs)
  held_released [] h = tt
  held_released (r ∷ rs) h = grind (arith, held_released rs h.1)

pub table_released : (id : ℕ) (key : List ℕ) (rs : List Held) → IsTable rs
    → IsTable (released id key rs)
table_released id key rs h = grind (arith, ordered_released, held_released, nat_tests)

-- ---- a key that the connection did not hold

pub itself : (key : List ℕ) → bytes_eq key key ≡ true
itself key = (bytes_eq-Decides key key).1 refl

pub released_remembered : (id : ℕ) (key : List ℕ) (rs : List Held) → AreHeld rs
    → list_any (λ h. h == id) (holders_of key rs) ≡ false
    → released id key (remembered id key rs) ≡ rs
released_remembered id key [] held none = grind (arith, left, itself, eq-eqb)
released_remembered id key (r ∷ rs) held none =
    elim (bytes_eq key r.key) as (λ b. bytes_eq key r.key ≡ b
    → list_any (λ h. h == id) (cond b r.holders (holders_of key rs)) ≡ false
    → released id key (cond b (record r { holders = with_id id r.holders } ∷ rs)
    (r ∷ remembered id key rs)) ≡ r ∷ rs) [
      | true ↦ grind (arith, left, without_with, nat_tests)
      | false ↦ λ e f.
          let rest = remembered id key rs in
          ap (λ b. cond b (left id key r rest) (r ∷ released id key rest)) e
          ∙ ap (λ l. r ∷ l) (released_remembered id key rs held.1 f)
    ] refl none

-- ---- a key that it held

pub remembered_held : (id : ℕ) (key : List ℕ) (rs : List Held) → AreOrdered rs
    → list_any (λ h. h == id) (holders_of key rs) ≡ true → remembered id key rs ≡ rs
remembered_held id key [] ordered some = absurd (let no : ⊥ = cc in no)
remembered_held id key (r ∷ rs) ordered some =
    elim (bytes_eq key r.key) as (λ b.
    list_any (λ h. h == id) (cond b r.holders (holders_of key rs)) ≡ true
    → cond b (record r { holders = with_id id r.holders } ∷ rs) (r ∷ remembered id key rs)
    ≡ r ∷ rs) [
      | true ↦ λ f. ap (λ hs. record r { holders = hs } ∷ rs) (with_held id 0 r.holders ordered.0 f)
      | false ↦ λ f. ap (λ l. r ∷ l) (remembered_held id key rs ordered.2 f)
    ] some

-- ---- key by key

pub last_released : (id : ℕ) (keys : List (List ℕ)) (key : List ℕ) (rows : List Held)
    → all_released id (keys ++ key ∷ []) rows ≡ all_released id keys (released id key rows)
last_released id [] key rows = refl
last_released id (k ∷ keys) key rows = ap (released id k) (last_released id keys key rows)

pub last_remembered : (id : ℕ) (keys : List (List ℕ)) (key : List ℕ) (rows : List Held)
    → with_keys id (keys ++ key ∷ []) rows ≡ remembered id key (with_keys id keys rows)
last_remembered id [] key rows = refl
last_remembered id (k ∷ keys) key rows = last_remembered id keys key (remembered id k rows)
