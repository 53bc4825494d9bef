use Rattle.expiry.specs.Places.{AllDue}
use Rattle.expiry.proofs.block.Block.due_count.Given as goal

abbrev pub invariant-loop-place : goal.invariant-loop-place
invariant-loop-place l = AllDue l.moment l.self l.place
