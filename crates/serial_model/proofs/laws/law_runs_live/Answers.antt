use Rattle.serial_model.proofs.laws.law_runs_live.Goals as goal
use Rattle.serial_model.proofs.EntryLaws.{runs_live}

pub returns : goal.returns
returns c = runs_live
