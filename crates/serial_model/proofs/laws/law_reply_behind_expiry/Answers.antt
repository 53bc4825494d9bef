use Rattle.std.proofs.Common.{map, ◌++◌}
use Rattle.serial_model.proofs.laws.law_reply_behind_expiry.Goals as goal
use Rattle.serial_model.specs.State.{is_on}
use Rattle.serial_model.specs.Actions.{End, ends, heard, later_told, modes_then}
use Rattle.serial_model.specs.Actions.{replies}
use Rattle.serial_model.specs.Actions.{routed, expiry_told}
use Rattle.serial_model.specs.History.{run_action, state}
use Rattle.serial_model.proofs.Sendings.{parted}

pub returns : goal.returns
returns c = λ l id moment words past.
    let s = state l past in
    let t = run_action id words moment s in
    let last = routed (modes_then t s) (is_on s) (later_told l t s) in
    let ended = map (λ c. (c, End)) (ends l t s) in (
      heard s last ++ ended,
      parted s (routed s.modes (is_on s) (expiry_told t s)) (replies t) last ended,
    )
