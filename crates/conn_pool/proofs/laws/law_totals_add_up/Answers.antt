use Rattle.conn_pool.proofs.Adding.{add_up}
use Rattle.conn_pool.proofs.laws.law_totals_add_up.Goals as goal

pub returns : goal.returns
returns c = add_up
