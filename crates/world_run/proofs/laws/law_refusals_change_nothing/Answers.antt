use Rattle.world_run.proofs.History.{faults_none}
use Rattle.world_run.proofs.laws.law_refusals_change_nothing.Goals as goal

pub returns : goal.returns
returns c = faults_none
