use Rattle.std.proofs.Common.{map, arith, ne_eqb}
use Rattle.shared_cache.proofs.PlainKeys.{plain}
use Rattle.shared_cache.proofs.Places.{rank_append}
use Rattle.shared_cache.proofs.held_keys.HeldKeys.is_at.Goals as goal

pub returns-then-more-place : goal.returns-then-more-place
returns-then-more-place c = grind (arith, map, plain, rank_append, ne_eqb)

pub loop-entries-preserved : goal.loop-entries-preserved
loop-entries-preserved c = grind (arith, map, plain, rank_append)
