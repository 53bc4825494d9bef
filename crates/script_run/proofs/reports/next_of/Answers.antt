use Rattle.std.proofs.Common.{slice_set, arith}
use Rattle.script_run.proofs.Reporting.{first_there, rest_there}
use Rattle.script_run.proofs.reports.next_of.Goals as goal

pub returns-clause-first : goal.returns-clause-first
returns-clause-first c = grind (arith, first_there)

pub returns-clause-rest : goal.returns-clause-rest
returns-clause-rest c = grind (arith, slice_set, rest_there)
