use Rattle.std.proofs.Common.{arith}
use Rattle.shared_cache.proofs.OtherTurns.{drained, side_drained}
use Rattle.shared_cache.proofs.client.ClientState.is_drained.Goals as goal

pub returns-in-Main : goal.returns-in-Main
returns-in-Main c = grind (arith, drained)

pub returns-in-Side : goal.returns-in-Side
returns-in-Side c = grind (arith, side_drained)
