-- What a search by halving finds, and what a change at that place does.
use Rattle.std.proofs.Common.{◌≡◌, ◌<◌, ◌+◌, ℕ, List, [], ◌∷◌, Bool, true, false, cond}
use Rattle.std.proofs.Common.{length, refl, ap, sym, subst, ◌∙◌, inl, inr, arith}
use Rattle.std.specs.Prelude.{not, ◌||◌}
use Rattle.std.specs.List.{remove}
use Rattle.std.proofs.lemmas.Bool.{cases_lt}
use Prim.Native.Nat.{zero, suc}
use Rattle.expiry.specs.declared.index.Deadline.{Deadline}
use Rattle.expiry.specs.Index.{comes_before, is_same, has, without}
use Rattle.expiry.specs.Order.{IsBeforeAll, IsOrdered}
use Rattle.expiry.specs.Places.{AllBefore, IsPlaceFor, deadline_at}
use Rattle.expiry.proofs.Orders.{same_deadline, before_trans, otherwise_before, before_all_trans}
use Rattle.expiry.proofs.Members.{not_among}
use Rattle.expiry.proofs.Parts.{other_after, none_ahead}

before_at : (d : Deadline) (ds : List Deadline) (j : ℕ) → IsBeforeAll d ds → j < length ds
    → comes_before d (deadline_at ds j) ≡ true
before_at d [] j h lt = absurd (omega arith)
before_at d (e ∷ es) zero h lt = h.0
before_at d (e ∷ es) (suc j) h lt = before_at d es j h.1 (omega arith)

in_order : (ds : List Deadline) (i j : ℕ) → IsOrdered ds → i < j → j < length ds
    → comes_before (deadline_at ds i) (deadline_at ds j) ≡ true
in_order [] i j h lt within = absurd (omega arith)
in_order (d ∷ ds) zero zero h lt within = absurd (omega arith)
in_order (d ∷ ds) zero (suc j) h lt within = before_at d ds j h.0 (omega arith)
in_order (d ∷ ds) (suc i) zero h lt within = absurd (omega arith)
in_order (d ∷ ds) (suc i) (suc j) h lt within = in_order ds i j h.1 (omega arith) (omega arith)

-- where one comes before a deadline, all up to it do
pub all_up_to : (d : Deadline) (ds : List Deadline) (n : ℕ) → IsOrdered ds → n < length ds
    → comes_before (deadline_at ds n) d ≡ true → AllBefore d ds (n + 1)
all_up_to d ds n h within before i lt = elim (cases_lt i n) [
  | inl below ↦ before_trans (deadline_at ds i) (deadline_at ds n) d
      (in_order ds i n h below within) before
  | inr above ↦
      let here : n ≡ i = omega arith in
      ap (λ k. comes_before (deadline_at ds k) d) (sym here) ∙ before
]

module _ (d : Deadline) where
  shorter : (e : Deadline) (es : List Deadline) (n : ℕ) → IsPlaceFor d (e ∷ es) (suc n)
      → IsPlaceFor d es n
  shorter e es n p = (omega arith, (λ i k. p.1 (suc i) (omega arith)), (λ k. p.2 (omega arith)))

  abbrev passed : Bool → Deadline → List Deadline → List Deadline
  passed b e rest = cond (not b) (e ∷ rest) rest

  -- a deadline that is there
  pub without_there : (ds : List Deadline) (n : ℕ) → IsOrdered ds → IsPlaceFor d ds n
      → n < length ds → is_same d (deadline_at ds n) ≡ true → without d ds ≡ remove ds n
  without_there [] n h p lt is = absurd (omega arith)
  without_there (e ∷ es) zero h p lt is =
      ap (λ b. passed b e (without d es)) is
      ∙ none_ahead d es (
      let same : d ≡ e = same_deadline d e is in
      subst (λ x. IsBeforeAll x es) (sym same) h.0
      )
  without_there (e ∷ es) (suc n) h p lt is =
      ap (λ b. passed b e (without d es)) (other_after d e (p.1 0 (omega arith)))
      ∙ ap (λ l. e ∷ l) (without_there es n h.1 (shorter e es n p) (omega arith) is)

  pub there : (ds : List Deadline) (n : ℕ) → n < length ds → is_same d (deadline_at ds n) ≡ true
      → has d ds ≡ true
  there [] n lt is = absurd (omega arith)
  there (e ∷ es) zero lt is = ap (λ b. b || has d es) is
  there (e ∷ es) (suc n) lt is =
      let rest = there es n (omega arith) is in grind arith

  all_ahead : (e : Deadline) (es : List Deadline) → IsOrdered (e ∷ es)
      → comes_before e d ≡ false → is_same d e ≡ false → IsBeforeAll d (e ∷ es)
  all_ahead e es h before other =
      let first = otherwise_before d e before other in
      (first, before_all_trans d e es first h.0)

  -- a deadline that is not there
  pub without_none : (ds : List Deadline) (n : ℕ) → IsOrdered ds → IsPlaceFor d ds n
      → (n < length ds → is_same d (deadline_at ds n) ≡ false) → without d ds ≡ ds
  without_none [] n h p other = refl
  without_none (e ∷ es) zero h p other =
      none_ahead d (e ∷ es) (all_ahead e es h (p.2 (omega arith)) (other (omega arith)))
  without_none (e ∷ es) (suc n) h p other =
      ap (λ b. passed b e (without d es)) (other_after d e (p.1 0 (omega arith)))
      ∙ ap (λ l. e ∷ l)
      (without_none es n h.1 (shorter e es n p) (λ k. other (omega arith)))

  pub not_there : (ds : List Deadline) (n : ℕ) → IsOrdered ds → IsPlaceFor d ds n
      → (n < length ds → is_same d (deadline_at ds n) ≡ false) → has d ds ≡ false
  not_there [] n h p other = refl
  not_there (e ∷ es) zero h p other =
      not_among d (e ∷ es) (all_ahead e es h (p.2 (omega arith)) (other (omega arith)))
  not_there (e ∷ es) (suc n) h p other =
      ap (λ b. b || has d es) (other_after d e (p.1 0 (omega arith)))
      ∙ not_there es n h.1 (shorter e es n p) (λ k. other (omega arith))
