use Rattle.std.proofs.Common.{arith}
use Rattle.shared_cache.proofs.PendingFront.{put_behind}
use Rattle.shared_cache.proofs.pending.PendingReplies.put.Goals as goal

pub returns : goal.returns
returns c = put_behind _ _ _ _ _ _ (omega arith) c.self.view_is c.put.ensures
