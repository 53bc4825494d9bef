use Rattle.serial_model.proofs.laws.law_each_run_once.Goals as goal
use Rattle.serial_model.proofs.Turning.{each_run_once}

pub returns : goal.returns
returns c = each_run_once
