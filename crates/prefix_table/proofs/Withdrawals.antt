-- Taking back what was new leaves the table as it was.
use Rattle.std.proofs.Common.{◌≡◌, ◌<◌, ℕ, List, [], ◌∷◌, ◌++◌, true, false, cond, length}
use Rattle.std.proofs.Common.{get_or, set, remove, take, refl, ap, sym, ◌∙◌, ◌+◌, arith}
use Rattle.std.specs.Prelude.{◌==◌, Ok, Err}
use Rattle.std.specs.List.{list_any}
use Rattle.std.specs.Ordering.{match_ordering}
use Rattle.std.specs.declared.cmp.Ordering.TheVariants.{Less, Equal, Greater}
use Rattle.std.proofs.lemmas.Bool.Decides.{nat_tests}
use Rattle.std.proofs.lemmas.Cmp.{nat_list_cmp_total, tied_itself}
use Rattle.std.proofs.lemmas.List.{get_or_read, take_more}
use Prim.Native.Nat.{zero, suc}
use Rattle.id_set.specs.Ids.{Ascend}
use Rattle.prefix_table.specs.declared.table.Registration.{Registration}
use Rattle.prefix_table.specs.Table.{byte_order, first_of, is_held, joined_by, left_by, nothing}
use Rattle.prefix_table.specs.Table.{registered, with_prefixes}
use Rattle.prefix_table.specs.Order.{AreHeld, AreInOrder, ComesBefore, IsTable}
use Rattle.prefix_table.specs.Places.{IsPlace}
use Rattle.prefix_table.specs.Withdrawals.{all_withdrawn, is_registered, withdrawn}
use Rattle.id_set.proofs.Members.{with_held, without_with}
use Rattle.prefix_table.proofs.Registering.{registered_there}

itself : (prefix : List ℕ) → byte_order prefix prefix ≡ Equal
itself prefix = tied_itself nat_list_cmp_total prefix

module _ (id : ℕ) (prefix : List ℕ) where
  abbrev left : Registration → List Registration → List Registration
  left r rs = cond (is_held (left_by id r)) (left_by id r ∷ rs) rs

  -- ---- by the place of the prefix

  pub is_registered_there : (rs : List Registration) (n : ℕ) → IsPlace prefix rs (Ok n)
      → is_registered id prefix rs ≡ list_any (λ other. other == id) (get_or rs n nothing).ids
  is_registered_there [] n at = absurd (omega (arith, at.0))
  is_registered_there (r ∷ rs) zero at = grind arith
  is_registered_there (r ∷ rs) (suc n) at =
      ap (λ o. match_ordering o (is_registered id prefix rs)
      (list_any (λ other. other == id) r.ids) false) (at.1 0 (omega arith))
      ∙ is_registered_there rs n (omega (arith, at.0), (λ i k. at.1 (suc i) (omega arith)), at.2)

  pub is_registered_not : (rs : List Registration) (n : ℕ) → IsPlace prefix rs (Err n)
      → is_registered id prefix rs ≡ false
  is_registered_not [] n at = refl
  is_registered_not (r ∷ rs) zero at = grind arith
  is_registered_not (r ∷ rs) (suc n) at =
      ap (λ o. match_ordering o (is_registered id prefix rs)
      (list_any (λ other. other == id) r.ids) false) (at.1 0 (omega arith))
      ∙ is_registered_not rs n (
        omega (arith, at.0),
        (λ i k. at.1 (suc i) (omega arith)),
        (λ k. at.2 (omega arith)),
      )

  later : (r : Registration) (rs : List Registration) → byte_order r.prefix prefix ≡ Less
      → withdrawn id prefix (r ∷ rs) ≡ r ∷ withdrawn id prefix rs
  later r rs e = grind arith

  pub withdrawn_kept : (rs : List Registration) (n : ℕ) → IsPlace prefix rs (Ok n)
      → is_held (left_by id (get_or rs n nothing)) ≡ true
      → withdrawn id prefix rs ≡ set rs n (left_by id (get_or rs n nothing))
  withdrawn_kept [] n at held = absurd (omega (arith, at.0))
  withdrawn_kept (r ∷ rs) zero at held = grind (arith, left)
  withdrawn_kept (r ∷ rs) (suc n) at held =
      later r rs (at.1 0 (omega arith))
      ∙ ap (λ l. r ∷ l) (withdrawn_kept rs n
      (omega (arith, at.0), (λ i k. at.1 (suc i) (omega arith)), at.2) held)

  pub withdrawn_gone : (rs : List Registration) (n : ℕ) (x : Registration)
      → IsPlace prefix rs (Ok n) → is_held (left_by id (get_or rs n nothing)) ≡ false
      → withdrawn id prefix rs ≡ remove (set rs n x) n
  withdrawn_gone [] n x at held = absurd (omega (arith, at.0))
  withdrawn_gone (r ∷ rs) zero x at held = grind (arith, left)
  withdrawn_gone (r ∷ rs) (suc n) x at held =
      later r rs (at.1 0 (omega arith))
      ∙ ap (λ l. r ∷ l) (withdrawn_gone rs n x
      (omega (arith, at.0), (λ i k. at.1 (suc i) (omega arith)), at.2) held)

  pub withdrawn_none : (rs : List Registration) (n : ℕ) → IsPlace prefix rs (Err n)
      → withdrawn id prefix rs ≡ rs
  withdrawn_none [] n at = refl
  withdrawn_none (r ∷ rs) zero at = grind arith
  withdrawn_none (r ∷ rs) (suc n) at =
      later r rs (at.1 0 (omega arith))
      ∙ ap (λ l. r ∷ l) (withdrawn_none rs n (
        omega (arith, at.0),
        (λ i k. at.1 (suc i) (omega arith)),
        (λ k. at.2 (omega arith)),
      ))

  -- ---- what is left is a table

  before_withdrawn : (q : List ℕ) (rs : List Registration) → ComesBefore q rs
      → ComesBefore q (withdrawn id prefix rs)
  before_withdrawn q [] h = tt
  before_withdrawn q (r ∷ rs) h =
      elim (byte_order r.prefix prefix) as (λ o. ComesBefore q
      (match_ordering o (r ∷ withdrawn id prefix rs) (left r rs) (r ∷ rs))) [
        | Less ↦ (h.0, before_withdrawn q rs h.1)
        | Equal ↦ elim (is_held (left_by id r)) as
            (λ b. ComesBefore q (cond b (left_by id r ∷ rs) rs)) [ true ↦ h | false ↦ h.1 ]
        | Greater ↦ h
      ]

  ordered_withdrawn : (rs : List Registration) → AreInOrder rs → AreInOrder (withdrawn id prefix rs)
  ordered_withdrawn [] h = tt
  ordered_withdrawn (r ∷ rs) h =
      elim (byte_order r.prefix prefix) as (λ o. AreInOrder
      (match_ordering o (r ∷ withdrawn id prefix rs) (left r rs) (r ∷ rs))) [
        | Less ↦ (before_withdrawn r.prefix rs h.0, ordered_withdrawn rs h.1)
        | Equal ↦ elim (is_held (left_by id r)) as
            (λ b. AreInOrder (cond b (left_by id r ∷ rs) rs)) [ true ↦ h | false ↦ h.1 ]
        | Greater ↦ h
      ]

  held_withdrawn : (rs : List Registration) → AreHeld rs → AreHeld (withdrawn id prefix rs)
  held_withdrawn [] h = tt
  held_withdrawn (r ∷ rs) h =
      elim (byte_order r.prefix prefix) as (λ o. AreHeld
      (match_ordering o (r ∷ withdrawn id prefix rs) (left r rs) (r ∷ rs))) [
        | Less ↦ (h.0, held_withdrawn rs h.1)
        | Equal ↦ elim (is_held (left_by id r)) as (λ b. is_held (left_by id r) ≡ b
            → AreHeld (cond b (left_by id r ∷ rs) rs)) [
              | true ↦ λ e. (grind (arith, nat_tests), h.1)
              | false ↦ λ e. h.1
            ] refl
        | Greater ↦ h
      ]

  pub table_withdrawn : (rs : List Registration) → IsTable rs → IsTable (withdrawn id prefix rs)
  table_withdrawn rs h = record {
    order = ordered_withdrawn rs h.order;
    held = held_withdrawn rs h.held;
  }

  -- ---- a prefix that the connection had registered, and one that it had not

  pub registered_again : (rs : List Registration) (n : ℕ) → IsPlace prefix rs (Ok n)
      → Ascend (get_or rs n nothing).ids → is_registered id prefix rs ≡ true
      → registered id prefix rs ≡ rs
  registered_again rs n at up some =
      registered_there id prefix rs n at
      ∙ ap (λ ids. set rs n (record { prefix = (get_or rs n nothing).prefix; ids = ids }))
      (with_held id 0 (get_or rs n nothing).ids up (sym (is_registered_there rs n at) ∙ some))
      ∙ set_same rs n
    where
      set_same : (xs : List Registration) (i : ℕ) → set xs i (get_or xs i nothing) ≡ xs
      set_same [] i = refl
      set_same (x ∷ xs) zero = refl
      set_same (x ∷ xs) (suc i) = ap (λ l. x ∷ l) (set_same xs i)

  pub withdrawn_registered : (rs : List Registration) → AreHeld rs
      → is_registered id prefix rs ≡ false → withdrawn id prefix (registered id prefix rs) ≡ rs
  withdrawn_registered [] held none = grind (arith, left, itself)
  withdrawn_registered (r ∷ rs) held none =
      elim (byte_order r.prefix prefix) as (λ o. byte_order r.prefix prefix ≡ o
      → match_ordering o (is_registered id prefix rs)
      (list_any (λ other. other == id) r.ids) false ≡ false
      → withdrawn id prefix (match_ordering o (r ∷ registered id prefix rs)
      (joined_by id r ∷ rs) (first_of id prefix ∷ r ∷ rs)) ≡ r ∷ rs) [
        | Less ↦ λ e f.
            later r (registered id prefix rs) e
            ∙ ap (λ l. r ∷ l) (withdrawn_registered rs held.1 f)
        | Equal ↦ λ e f. grind (arith, left, without_with, nat_tests)
        | Greater ↦ λ e f. grind (arith, left, itself)
      ] refl none

-- ---- prefix by prefix

pub last_withdrawn : (id : ℕ) (ps : List (List ℕ)) (p : List ℕ) (rows : List Registration)
    → all_withdrawn id (ps ++ p ∷ []) rows ≡ all_withdrawn id ps (withdrawn id p rows)
last_withdrawn id [] p rows = refl
last_withdrawn id (q ∷ ps) p rows = ap (withdrawn id q) (last_withdrawn id ps p rows)

pub last_registered : (id : ℕ) (ps : List (List ℕ)) (p : List ℕ) (rows : List Registration)
    → with_prefixes id (ps ++ p ∷ []) rows ≡ registered id p (with_prefixes id ps rows)
last_registered id [] p rows = refl
last_registered id (q ∷ ps) p rows = last_registered id ps p (registered id q rows)

-- the lists up to one and the one that was read there
pub one_more : (xs : List (List ℕ)) (k : ℕ) (x y : List ℕ) → y ≡ x → k < length xs
    → x ≡ get_or xs k x → take (k + 1) xs ≡ take k xs ++ y ∷ []
one_more xs k x y same lt is =
    take_more xs k [] lt
    ∙ ap (λ z. take k xs ++ z ∷ []) (sym (same ∙ get_or_read xs k x lt is []))
