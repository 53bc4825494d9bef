use Rattle.track_table.proofs.Orders.{holders_remembered}
use Rattle.track_table.proofs.laws.law_holders_grow.Goals as goal

pub returns : goal.returns
returns c = holders_remembered
