use Rattle.server_book.proofs.Plans.{due_is}
use Rattle.server_book.proofs.plan.play_expiry.Goals as goal
use Rattle.std.proofs.Common.{arith}

pub returns-clause-expired : goal.returns-clause-expired
returns-clause-expired c = grind (arith, due_is)
