use Rattle.std.proofs.Common.{◌≤◌}
use Rattle.script_bench.proofs.map.find_often.Given as goal

abbrev pub invariant-loop-place : goal.invariant-loop-place
invariant-loop-place g l = l.found ≤ l.place
