use Rattle.tracking_laws.proofs.law_told_exactly_where_remembered.Goals as goal
use Rattle.tracking_laws.proofs.Told.{told_by_name}
use Rattle.tracking_laws.proofs.Flushes.{told_of_all}

pub returns-clause-by_name : goal.returns-clause-by_name
returns-clause-by_name c = told_by_name

pub returns-clause-of_all : goal.returns-clause-of_all
returns-clause-of_all c = told_of_all
