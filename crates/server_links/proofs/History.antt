-- What holds of every schedule, as the crates above cite it.
use Rattle.server_links.specs.OneHistory.{HasOneHistory}
use Rattle.server_links.proofs.Delivery.{flow_delivers}
use Rattle.server_links.proofs.Events.{are_unique, follows, whole_history}

pub one_history : HasOneHistory
one_history l events w e = (
  whole_history l events w e,
  follows l events w e,
  λ at. flow_delivers w at (are_unique l events w e),
)
