-- The mode of a connection, entry by entry.
use Rattle.std.proofs.Common.{◌≡◌, ◌<◌, ℕ, List, ◌∷◌, true, false, cond, ap}
use Rattle.std.specs.Prelude.{◌==◌}
use Rattle.track_modes.specs.ModeState.{new_mode}
use Rattle.serial_model.specs.declared.history.Limits.{Limits}
use Rattle.serial_model.specs.declared.history.Entry.{Entry}
use Rattle.serial_model.specs.declared.history.Entry.TheVariants.{Run, Tick}
use Rattle.serial_model.specs.History.{admitted, state, mode, made, IsLegal}
use Rattle.serial_model.proofs.Ends.{mode_by_own_runs}
use Rattle.serial_model.proofs.Fresh.{fresh_is_first}

module _ (l : Limits) where
  pub mode_other : (c id m : ℕ) (words : List (List ℕ)) (past : List Entry) → (id == c) ≡ false
      → mode l c (Run id words m ∷ past) ≡ mode l c past
  mode_other c id m words past h = mode_by_own_runs l c (Run id words m) past h

  pub mode_own : (c id m : ℕ) (words : List (List ℕ)) (past : List Entry) → (id == c) ≡ true
      → mode l c (Run id words m ∷ past) ≡ (made l past id words m).mode
  unfolding state
  mode_own c id m words past h = ap (λ b. cond b (made l past id words m).mode (mode l c past)) h

  pub mode_tick : (c m : ℕ) (past : List Entry) → mode l c (Tick m ∷ past) ≡ mode l c past
  mode_tick c m past = mode_by_own_runs l c (Tick m) past tt

  -- a connection that was not admitted has the first mode
  pub mode_fresh : (past : List Entry) (c : ℕ) → IsLegal l past → admitted past < c
      → mode l c past ≡ new_mode
  mode_fresh past c h lt = (fresh_is_first l c past h lt).mode
