use Rattle.std.proofs.Common.{◌≡◌}
use Rattle.lock_bench.proofs.tests.play_rounds.Given as goal

abbrev pub invariant-loop-round : goal.invariant-loop-round
invariant-loop-round g l = l.seat.lock ≡ l.initial.seat.lock
