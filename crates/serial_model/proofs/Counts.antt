-- The counts of the state are those of the entries.
use Rattle.std.proofs.Common.{◌≡◌, ◌+◌, ℕ, List, [], ◌∷◌, Bool, refl, ap, ◌∙◌, arith}
use Rattle.std.specs.Prelude.{◌&&◌, not, nat_lt, nat_le}
use Rattle.serial_model.specs.declared.history.Limits.{Limits}
use Rattle.serial_model.specs.declared.history.Entry.{Entry}
use Rattle.serial_model.specs.declared.history.Entry.TheVariants.{Admit, Run, Tick, Take, Close}
use Rattle.serial_model.specs.State.{is_live, is_on}
use Rattle.serial_model.specs.History.{state, admitted, latest, runs_on}

module _ (l : Limits) where
  pub admitted_is : (past : List Entry) → (state l past).admitted ≡ admitted past
  unfolding state
  admitted_is [] = refl
  admitted_is (Admit id ∷ past) = ap (λ n. n + 1) (admitted_is past)
  admitted_is (Run id words moment ∷ past) = admitted_is past
  admitted_is (Tick moment ∷ past) = admitted_is past
  admitted_is (Take id max ∷ past) = admitted_is past
  admitted_is (Close id ∷ past) = admitted_is past

  pub latest_is : (past : List Entry) → (state l past).latest ≡ latest past
  unfolding state
  latest_is [] = refl
  latest_is (Admit id ∷ past) = latest_is past
  latest_is (Run id words moment ∷ past) = refl
  latest_is (Tick moment ∷ past) = refl
  latest_is (Take id max ∷ past) = latest_is past
  latest_is (Close id ∷ past) = latest_is past

  twice : (a b : Bool) → (a && b) ≡ (a && not (not b))
  twice a b = grind arith

  -- a connection runs on where the state has it on
  pub on_is : (past : List Entry) (c : ℕ) → is_on (state l past) c ≡ runs_on l past c
  on_is past c =
      ap (λ n. (nat_lt 0 c && nat_le c n) && is_live ((state l past).standing c))
      (admitted_is past)
      ∙ twice (nat_lt 0 c && nat_le c (admitted past)) (is_live ((state l past).standing c))
