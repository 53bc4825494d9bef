use Rattle.std.proofs.Common.{◌≡◌, ◌++◌, ◌-◌}
use Rattle.script_bench.specs.Asks.{digits, key_of}
use Rattle.script_bench.proofs.client.key.Given as goal

abbrev pub invariant-loop : goal.invariant-loop
invariant-loop l = key_of l.number ≡ l.bytes.items ++ digits (12 - l.counter) l.rest
