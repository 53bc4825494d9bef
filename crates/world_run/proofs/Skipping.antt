-- What is kept of the links that are over, and what is told of them.
use Rattle.std.proofs.Common.{◌≡◌, ◌<◌, ◌≤◌, ℕ, List, true, false, Result, slice_index_or}
use Rattle.std.proofs.Common.{refl, arith, eq-eqb, inl, inr, max}
use Rattle.std.specs.Prelude.{◌==◌, OnOk, OnErr}
use Rattle.std.proofs.lemmas.Bool.{cases_lt, eqb-true}
use Rattle.world_run.specs.WorldState.{AreOver, IsOver, WorldState}

-- one more place is noted, or want of memory leaves it as it was
pub noted : {A E : Type 0} → (old new : List ℕ) (over next : ℕ) (r : Result A E) (w : WorldState)
    → OnOk r (slice_index_or new over 0 ≡ next)
    → OnErr r (slice_index_or new over 0 ≡ slice_index_or old over 0)
    → ((k : ℕ) → (k ≡ over → ⊥) → slice_index_or new k 0 ≡ slice_index_or old k 0)
    → ((k : ℕ) → over ≤ k → k < next → IsOver w k) → AreOver old w → AreOver new w
noted old new over next r w ok err others run are from at order below =
    elim (from == over) as (λ b. (from == over) ≡ b → IsOver w at) [
      | true ↦ grind (arith, eqb-true, slice_index_or)
      | false ↦ λ e. are from at order (grind (arith, slice_index_or, eq-eqb))
    ] refl

-- up to the place that is told
pub run_on : (next : List ℕ) (over at to : ℕ) (w : WorldState) → AreOver next w
    → to ≤ max at (slice_index_or next at 0)
    → ((k : ℕ) → over ≤ k → k < at → IsOver w k) → (k : ℕ) → over ≤ k → k < to → IsOver w k
run_on next over at to w are is run k order below = elim (cases_lt k at) [
  | inl lt ↦ run k order lt
  | inr ge ↦ are at k ge (omega (arith, below, is, ge))
]
