use Rattle.std.proofs.Common.{arith}
use Rattle.client_link.proofs.Calling.{waited_adds, waited_fails, waited_on}
use Rattle.client_link.proofs.callers.ask_ready.Goals as goal

pub returns-in-Ok-ask-clause-ok : goal.returns-in-Ok-ask-clause-ok
returns-in-Ok-ask-clause-ok g c = grind (arith, waited_adds)

pub loop-preserved : goal.loop-preserved
loop-preserved g c = grind (arith, waited_on)

pub returns-then-not-is_not_ready-clause-err : goal.returns-then-not-is_not_ready-clause-err
returns-then-not-is_not_ready-clause-err g c = grind (arith, waited_fails)
