use Rattle.shared_cache.proofs.LaterReplies.{no_later_reply}
use Rattle.shared_cache.proofs.laws.law_no_later_reply.Goals as goal

pub returns : goal.returns
returns c = no_later_reply
