-- Each call leaves prefixes in byte order, each with a connection.
use Rattle.std.proofs.Common.{◌≡◌, ◌<◌, ℕ, List, [], ◌∷◌, Bool, true, false, cond, length}
use Rattle.std.proofs.Common.{map, refl, ap, ◌∙◌, arith}
use Rattle.std.specs.Prelude.{◌==◌, not, filter}
use Rattle.std.specs.Ordering.{match_ordering, ordering_reverse}
use Rattle.std.specs.declared.cmp.Ordering.TheVariants.{Less, Equal, Greater}
use Rattle.std.proofs.lemmas.Bool.Decides.{nat_tests}
use Rattle.std.proofs.lemmas.Cmp.{nat_list_cmp_total}
use Rattle.id_set.proofs.Orders.{with_some}
use Rattle.prefix_table.specs.declared.table.Registration.{Registration}
use Rattle.prefix_table.specs.Table.{byte_order, first_of, is_held, joined_by, left_by}
use Rattle.prefix_table.specs.Table.{registered, without_connection}
use Rattle.prefix_table.specs.Order.{ComesBefore, AreInOrder, AreHeld, IsTable}

turned : (a b : List ℕ) → byte_order a b ≡ Greater → byte_order b a ≡ Less
turned a b e = nat_list_cmp_total.antisymm b a ∙ ap ordering_reverse e

before_all : (a b : List ℕ) (rs : List Registration) → byte_order a b ≡ Less → ComesBefore b rs
    → ComesBefore a rs
before_all a b [] e h = tt
before_all a b (r ∷ rs) e h =
    (nat_list_cmp_total.trans a b r.prefix e h.0, before_all a b rs e h.1)

-- ---- registering

module _ (id : ℕ) (prefix : List ℕ) where
  before_registered : (q : List ℕ) (rs : List Registration) → ComesBefore q rs
      → byte_order q prefix ≡ Less
      → ComesBefore q (registered id prefix rs)
  before_registered q [] h e = (e, tt)
  before_registered q (r ∷ rs) h e =
      elim (byte_order r.prefix prefix) as (λ o. ComesBefore q
      (match_ordering o (r ∷ registered id prefix rs) (joined_by id r ∷ rs)
      (first_of id prefix ∷ r ∷ rs))) [
        | Less ↦ (h.0, before_registered q rs h.1 e)
        | Equal ↦ h
        | Greater ↦ (e, h)
      ]

  ordered_registered : (rs : List Registration) → AreInOrder rs
      → AreInOrder (registered id prefix rs)
  ordered_registered [] h = (tt, tt)
  ordered_registered (r ∷ rs) h =
      elim (byte_order r.prefix prefix) as (λ o. byte_order r.prefix prefix ≡ o → AreInOrder
      (match_ordering o (r ∷ registered id prefix rs) (joined_by id r ∷ rs)
      (first_of id prefix ∷ r ∷ rs))) [
        | Less ↦ λ e. (before_registered r.prefix rs h.0 e, ordered_registered rs h.1)
        | Equal ↦ λ e. h
        | Greater ↦ grind (arith, turned, before_all)
      ] refl

  held_registered : (rs : List Registration) → AreHeld rs → AreHeld (registered id prefix rs)
  held_registered [] h = (omega arith, tt)
  held_registered (r ∷ rs) h =
      elim (byte_order r.prefix prefix) as (λ o. AreHeld
      (match_ordering o (r ∷ registered id prefix rs) (joined_by id r ∷ rs)
      (first_of id prefix ∷ r ∷ rs))) [
        | Less ↦ (h.0, held_registered rs h.1)
        | Equal ↦ (with_some id r.ids, h.1)
        | Greater ↦ (omega arith, h)
      ]

  pub table_registered : (rs : List Registration) → IsTable rs → IsTable (registered id prefix rs)
  table_registered rs h = record {
    order = ordered_registered rs h.order;
    held = held_registered rs h.held;
  }

-- ---- forgetting a connection

module _ (p : Registration → Bool) where
  before_filter : (q : List ℕ) (rs : List Registration) → ComesBefore q rs
      → ComesBefore q (filter p rs)
  before_filter q [] h = tt
  before_filter q (r ∷ rs) h =
      elim (p r) as (λ b. ComesBefore q (cond b (r ∷ filter p rs) (filter p rs))) [
        | true ↦ (h.0, before_filter q rs h.1)
        | false ↦ before_filter q rs h.1
      ]

  ordered_filter : (rs : List Registration) → AreInOrder rs → AreInOrder (filter p rs)
  ordered_filter [] h = tt
  ordered_filter (r ∷ rs) h =
      elim (p r) as (λ b. AreInOrder (cond b (r ∷ filter p rs) (filter p rs))) [
        | true ↦ (before_filter r.prefix rs h.0, ordered_filter rs h.1)
        | false ↦ ordered_filter rs h.1
      ]

module _ (id : ℕ) where
  before_left : (q : List ℕ) (rs : List Registration) → ComesBefore q rs
      → ComesBefore q (map (left_by id) rs)
  before_left q [] h = tt
  before_left q (r ∷ rs) h = (h.0, before_left q rs h.1)

  ordered_left : (rs : List Registration) → AreInOrder rs → AreInOrder (map (left_by id) rs)
  ordered_left [] h = tt
  ordered_left (r ∷ rs) h = (before_left r.prefix rs h.0, ordered_left rs h.1)

held_kept : (rs : List Registration) → AreHeld (filter is_held rs)
held_kept [] = tt
held_kept (r ∷ rs) =
    elim (length r.ids == 0) as (λ b. (length r.ids == 0) ≡ b
    → AreHeld (cond (not b) (r ∷ filter is_held rs) (filter is_held rs))) [
      | true ↦ λ e. held_kept rs
      | false ↦ λ e. let some : 0 < length r.ids = grind (arith, nat_tests) in (some, held_kept rs)
    ] refl

pub table_without_connection : (id : ℕ) (rs : List Registration) → IsTable rs
    → IsTable (without_connection id rs)
table_without_connection id rs h = record {
  order = ordered_filter is_held (map (left_by id) rs) (ordered_left id rs h.order);
  held = held_kept (map (left_by id) rs);
}
