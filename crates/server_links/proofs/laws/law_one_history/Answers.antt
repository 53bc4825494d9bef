use Rattle.server_links.proofs.History.{one_history}
use Rattle.server_links.proofs.laws.law_one_history.Goals as goal

pub returns : goal.returns
returns c = one_history
