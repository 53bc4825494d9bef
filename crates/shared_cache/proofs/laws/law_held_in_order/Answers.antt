use Rattle.shared_cache.proofs.Order.{held_in_order}
use Rattle.shared_cache.proofs.laws.law_held_in_order.Goals as goal

pub returns : goal.returns
returns c = held_in_order
