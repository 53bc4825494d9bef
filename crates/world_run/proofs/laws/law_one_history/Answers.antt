use Rattle.world_run.proofs.History.{one_history}
use Rattle.world_run.proofs.laws.law_one_history.Goals as goal

pub returns : goal.returns
returns c = one_history c.law_currency.ensures
