use Rattle.shared_cache.proofs.LegalLogs.{legal_step}
use Rattle.shared_cache.proofs.client.ClientState.turn.Goals as goal
use Rattle.std.proofs.Common.{arith}

pub returns-in-Ask-clause-legal : goal.returns-in-Ask-clause-legal
returns-in-Ask-clause-legal c = grind (arith, legal_step)

pub returns-in-Send-clause-legal : goal.returns-in-Send-clause-legal
returns-in-Send-clause-legal c = grind (arith, legal_step)

pub returns-in-Poll-clause-legal : goal.returns-in-Poll-clause-legal
returns-in-Poll-clause-legal c = grind (arith, legal_step)

pub returns-in-TakeOut-clause-legal : goal.returns-in-TakeOut-clause-legal
returns-in-TakeOut-clause-legal c = grind (arith, legal_step)

pub returns-in-Got-clause-legal : goal.returns-in-Got-clause-legal
returns-in-Got-clause-legal c = grind (arith, legal_step)

pub returns-in-End-clause-legal : goal.returns-in-End-clause-legal
returns-in-End-clause-legal c = grind (arith, legal_step)
