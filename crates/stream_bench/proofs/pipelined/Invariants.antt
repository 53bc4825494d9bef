use Rattle.std.proofs.Common.{[], ◌∷◌, Ok}
use Rattle.stream_bench.specs.Reading.{repeated, Reads, new_readers, mebibyte_of}
use Rattle.stream_bench.proofs.pipelined.Given as goal

abbrev pub invariant-loop : goal.invariant-loop
invariant-loop l =
    Reads l.requests (repeated l.counter (mebibyte_of l.fn.bytes)) new_readers l.readers (Ok
    l.count)
