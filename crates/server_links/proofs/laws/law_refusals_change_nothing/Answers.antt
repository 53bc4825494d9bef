use Rattle.server_links.proofs.Refusals.{faults_none}
use Rattle.server_links.proofs.laws.law_refusals_change_nothing.Goals as goal

pub returns : goal.returns
returns c = faults_none
