use Rattle.std.proofs.Common.{arith}
use Rattle.world_run.proofs.Linked.{links_give, put_kept}
use Rattle.world_run.proofs.link_end.LinkEnd.put.Goals as goal

pub returns-clause-gives : goal.returns-clause-gives
returns-clause-gives c m r = grind (arith, links_give)

pub returns-clause-limits : goal.returns-clause-limits
returns-clause-limits c = grind (arith, put_kept)

pub returns-clause-count : goal.returns-clause-count
returns-clause-count c = grind (arith, put_kept)
