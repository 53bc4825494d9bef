use Rattle.serial_model.proofs.laws.law_mode_by_own_runs.Goals as goal
use Rattle.serial_model.proofs.Ends.{mode_by_own_runs}

pub returns : goal.returns
returns c = mode_by_own_runs
