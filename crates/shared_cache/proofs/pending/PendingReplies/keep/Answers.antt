use Rattle.std.proofs.Common.{arith}
use Rattle.shared_cache.proofs.PendingFront.{kept}
use Rattle.shared_cache.proofs.pending.PendingReplies.keep.Goals as goal

pub returns : goal.returns
returns c = grind (arith, kept)
