-- What an action of a legal history sends: its messages, all of them for connections that have not
-- ended, and the end of each connection that ends by it.
use Rattle.std.proofs.Common.{◌≡◌, ap, ℕ, List, ◌++◌, true, map}
use Rattle.serial_model.specs.declared.history.Limits.{Limits}
use Rattle.serial_model.specs.declared.history.Entry.{Entry}
use Rattle.serial_model.specs.declared.history.Entry.TheVariants.{Run, Tick}
use Rattle.serial_model.specs.Actions.{End, all_messages}
use Rattle.serial_model.specs.History.{IsLegal, run_action, runs_on, sends, state, tick_action}
use Rattle.serial_model.proofs.LiveMessages.{run_live, tick_live}
use Rattle.serial_model.proofs.StateSteps.{run_ends, tick_ends}

pub run_sends : (l : Limits) (past : List Entry) (id : ℕ) (words : List (List ℕ)) (moment : ℕ)
    → IsLegal l past → runs_on l past id ≡ true
    → sends l (Run id words moment) (state l past)
    ≡ all_messages l (run_action id words moment (state l past)) (state l past)
    ++ map (λ c. (c, End)) (run_ends l id words moment (state l past))
run_sends l past id words moment legal on =
    ap (λ x. x ++ map (λ c. (c, End)) (run_ends l id words moment (state l past)))
    (run_live l past id words moment legal on)

pub tick_sends : (l : Limits) (past : List Entry) (moment : ℕ) → IsLegal l past
    → sends l (Tick moment) (state l past)
    ≡ all_messages l (tick_action moment (state l past)) (state l past)
    ++ map (λ c. (c, End)) (tick_ends l moment (state l past))
tick_sends l past moment legal =
    ap (λ x. x ++ map (λ c. (c, End)) (tick_ends l moment (state l past)))
    (tick_live l past moment legal)
