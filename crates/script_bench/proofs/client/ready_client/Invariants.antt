use Rattle.script_bench.specs.Filled.{IsReady}
use Rattle.script_bench.proofs.client.ready_client.Given as goal

abbrev pub invariant-loop-key : goal.invariant-loop-key
invariant-loop-key g l = IsReady l.initial.seat.lock l.keys l.key l.seat
