use Rattle.std.proofs.Common.{arith}
use Rattle.client_link.proofs.Calling.{sends}
use Rattle.client_link.proofs.callers.send_through.Goals as goal

pub returns-in-Ok-await_reply-clause-ok : goal.returns-in-Ok-await_reply-clause-ok
returns-in-Ok-await_reply-clause-ok g c = grind (arith, sends)
