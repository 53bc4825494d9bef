-- The place of a deadline, and the deadlines before a moment, in a list in order.
use Rattle.std.proofs.Common.{◌≡◌, ◌<◌, ℕ, List, [], ◌∷◌, Bool, true, false, cond, length, take}
use Rattle.std.proofs.Common.{refl, ap, sym, ◌∙◌, arith}
use Rattle.std.specs.Prelude.{insert, slice_get, Some, None}
use Rattle.std.proofs.lemmas.Bool.Decides.{nat_tests}
use Prim.Native.Nat.{zero, suc}
use Rattle.expiry.specs.declared.index.Deadline.{Deadline}
use Rattle.expiry.specs.Index.{comes_before, is_same, with, is_due, due, left, first_of}
use Rattle.expiry.specs.Blocks.{is_nil}
use Rattle.expiry.specs.Order.{IsBeforeAll, IsOrdered}
use Rattle.expiry.specs.Places.{IsPlaceFor, IsDueFront, deadline_at}

module _ (d : Deadline) where
  abbrev chosen : Bool → Bool → Deadline → List Deadline → List Deadline
  chosen b s e es = cond b (e ∷ with d es) (cond s (e ∷ es) (d ∷ e ∷ es))

  pub with_same : (ds : List Deadline) (n : ℕ) → IsPlaceFor d ds n → n < length ds
      → is_same d (deadline_at ds n) ≡ true → with d ds ≡ ds
  with_same [] n p lt is = absurd (omega arith)
  with_same (e ∷ es) zero p lt is = grind arith
  with_same (e ∷ es) (suc n) p lt is =
      ap (λ b. chosen b (is_same d e) e es) (p.1 0 (omega arith))
      ∙ ap (λ l. e ∷ l) (with_same es n (
        omega arith,
        (λ i k. p.1 (suc i) (omega arith)),
        (λ k. p.2 (omega arith)),
      ) (omega arith) is)

  pub with_new : (ds : List Deadline) (n : ℕ) → IsPlaceFor d ds n
      → (n < length ds → is_same d (deadline_at ds n) ≡ false) → with d ds ≡ insert ds n d
  with_new [] zero p other = refl
  with_new [] (suc n) p other = absurd (omega arith)
  with_new (e ∷ es) zero p other = grind arith
  with_new (e ∷ es) (suc n) p other =
      ap (λ b. chosen b (is_same d e) e es) (p.1 0 (omega arith))
      ∙ ap (λ l. e ∷ l) (with_new es n (
        omega arith,
        (λ i k. p.1 (suc i) (omega arith)),
        (λ k. p.2 (omega arith)),
      ) (λ k. other (omega arith)))

-- what comes after a deadline that is not due is not due
pub later : (moment : ℕ) (d e : Deadline) → comes_before d e ≡ true → is_due moment d ≡ false
    → is_due moment e ≡ false
later moment d e = grind (arith, nat_tests)

module _ (moment : ℕ) where
  pub none_due : (d : Deadline) (ds : List Deadline) → IsBeforeAll d ds → is_due moment d ≡ false
      → due moment ds ≡ []
  none_due d [] h still = refl
  none_due d (e ∷ es) h still = grind (arith, later, none_due d es h.1 still)

  pub all_left : (d : Deadline) (ds : List Deadline) → IsBeforeAll d ds → is_due moment d ≡ false
      → left moment ds ≡ ds
  all_left d [] h still = refl
  all_left d (e ∷ es) h still = grind (arith, later, all_left d es h.1 still)

  -- the deadlines before a moment are those at the front
  pub front_due : (ds : List Deadline) (n : ℕ) → IsOrdered ds → IsDueFront moment ds n
      → take n ds ≡ due moment ds
  front_due [] zero h f = refl
  front_due [] (suc n) h f = absurd (omega arith)
  front_due (d ∷ ds) zero h f = grind (arith, none_due)
  front_due (d ∷ ds) (suc n) h f =
      ap (λ l. d ∷ l) (front_due ds n h.1 (
        omega arith,
        (λ i k. f.1 (suc i) (omega arith)),
        (λ k. f.2 (omega arith)),
      ))
      ∙ sym (ap (λ b. cond b (d ∷ due moment ds) (due moment ds)) (f.1 0 (omega arith)))

  -- where none is due, all are left
  pub none_gone : (ds : List Deadline) → IsOrdered ds → IsDueFront moment ds 0
      → left moment ds ≡ ds
  none_gone [] h f = refl
  none_gone (d ∷ ds) h f = grind (arith, all_left)

  -- where the first is not due, none is
  pub first_is_not : (ds : List Deadline) (d : Deadline) → IsOrdered ds
      → slice_get ds 0 ≡ Some d → is_due moment d ≡ false → None ≡ first_of (due moment ds)
  first_is_not [] d h first still = absurd cc
  first_is_not (e ∷ es) d h first still = grind (arith, none_due)

  pub first_is : (ds : List Deadline) (d : Deadline) → slice_get ds 0 ≡ Some d
      → is_due moment d ≡ true → Some d ≡ first_of (due moment ds)
  first_is [] d first past = absurd cc
  first_is (e ∷ es) d first past = grind arith

  pub none_first : (ds : List Deadline) → slice_get ds 0 ≡ None → None ≡ first_of (due moment ds)
  none_first [] none = refl
  none_first (e ∷ es) none = absurd cc

-- a list has a first deadline or none at all
pub nil_where_none : (ds : List Deadline) → slice_get ds 0 ≡ None → true ≡ is_nil ds
nil_where_none [] none = refl
nil_where_none (d ∷ ds) none = absurd cc

pub some_first : (ds : List Deadline) (d : Deadline) → slice_get ds 0 ≡ Some d
    → false ≡ is_nil ds
some_first [] d first = absurd cc
some_first (e ∷ es) d first = refl
