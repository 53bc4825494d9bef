use Rattle.shared_cache.proofs.PlainKeys.{plain}
use Rattle.shared_cache.proofs.Places.{ranked_append, ranked_found}
use Rattle.shared_cache.proofs.held_keys.HeldKeys.entry_at.Goals as goal
use Rattle.std.proofs.Common.{arith}

pub returns-in-Some-entry_among : goal.returns-in-Some-entry_among
returns-in-Some-entry_among c = grind (arith, ranked_found, plain)

pub loop-entries-preserved : goal.loop-entries-preserved
loop-entries-preserved c = grind (arith, ranked_append, plain)
