use Rattle.server_links.proofs.server_links.ServerLinks.count.Goals as goal
use Rattle.std.proofs.Common.{arith}

pub returns-clause-apart : goal.returns-clause-apart
returns-clause-apart c = grind arith
