use Rattle.std.proofs.Common.{arith}
use Rattle.std.proofs.lemmas.List.{length-map}
use Rattle.shared_cache.proofs.Order.{held_in_order}
use Rattle.world_run.proofs.Holding.{as_many}
use Rattle.world_run.proofs.member.Member.held.Goals as goal

pub returns : goal.returns
returns c = grind (arith, as_many, held_in_order, length-map)
