use Rattle.tracking_laws.proofs.law_each_read_is_owed_or_told.Goals as goal
use Rattle.tracking_laws.proofs.Causes.{each_read_is_owed_or_told, each_read_is_remembered}

pub returns-clause-owed : goal.returns-clause-owed
returns-clause-owed c = each_read_is_owed_or_told

pub returns-clause-remembered : goal.returns-clause-remembered
returns-clause-remembered c = each_read_is_remembered
