use Rattle.std.proofs.Common.{arith}
use Rattle.shared_client.proofs.Outcomes.{ends}
use Rattle.shared_client.proofs.turns.end.Goals as goal
use Rattle.shared_client.proofs.turns.end.Goals.{in-Ok-Noted, in-Err}

pub returns-clause-ok : goal.returns-clause-ok
returns-clause-ok g c = grind (arith, in-Ok-Noted, ends, in-Err)
