use Rattle.shared_cache.proofs.PendingFront.{behind, set_behind}
use Rattle.std.proofs.Common.{replicate, arith}
use Rattle.shared_cache.proofs.pending.PendingReplies.hand_over.Goals as goal

pub returns : goal.returns
returns c = grind (arith, behind, replicate, set_behind)
