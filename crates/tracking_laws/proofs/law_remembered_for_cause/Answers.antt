use Rattle.tracking_laws.proofs.law_remembered_for_cause.Goals as goal
use Rattle.tracking_laws.proofs.Owned.{remembered_is_read, gone_is_forgotten}
use Rattle.tracking_laws.proofs.Causes.{leaves_for_cause}

pub returns-clause-read : goal.returns-clause-read
returns-clause-read c = remembered_is_read

pub returns-clause-leaves : goal.returns-clause-leaves
returns-clause-leaves c = leaves_for_cause

pub returns-clause-forgotten : goal.returns-clause-forgotten
returns-clause-forgotten c = gone_is_forgotten
