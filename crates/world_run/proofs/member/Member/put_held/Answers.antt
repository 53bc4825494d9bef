use Rattle.std.proofs.Common.{arith, append_assoc}
use Rattle.shared_cache.proofs.Order.{held_in_order}
use Rattle.world_run.proofs.Printing.{all_listed, held_within, one_listed}
use Rattle.world_run.proofs.member.Member.put_held.Goals as goal

pub returns-in_default-clause-ok : goal.returns-in_default-clause-ok
returns-in_default-clause-ok c = grind (arith, all_listed, held_in_order)

pub loop-place-preserved : goal.loop-place-preserved
loop-place-preserved c = grind (arith, one_listed, held_in_order, append_assoc)

pub returns-clause-ok : goal.returns-clause-ok
returns-clause-ok c = grind (arith, held_within)
