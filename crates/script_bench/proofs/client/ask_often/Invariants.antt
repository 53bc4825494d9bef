use Rattle.script_bench.specs.Asks.{IsKeyQuery, Asks}
use Rattle.script_bench.proofs.client.ask_often.Given as goal

abbrev pub invariant-loop-place : goal.invariant-loop-place
invariant-loop-place g l = Asks (IsKeyQuery l.keys) l.place l.hits l.initial.seat l.seat
