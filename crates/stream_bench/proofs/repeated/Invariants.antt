use Rattle.std.proofs.Common.{◌≡◌}
use Rattle.stream_bench.specs.Reading as reading
use Rattle.stream_bench.proofs.repeated.Given as goal

abbrev pub invariant-loop : goal.invariant-loop
invariant-loop l = l.piece.items ≡ reading.repeated l.counter l.fn.bytes
