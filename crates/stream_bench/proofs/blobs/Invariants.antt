use Rattle.std.proofs.Common.{Ok}
use Rattle.stream_bench.specs.Reading.{repeated, Reads, new_readers, blob_of, blob_piece}
use Rattle.stream_bench.proofs.blobs.Given as goal

abbrev pub invariant-loop : goal.invariant-loop
invariant-loop l =
    Reads l.requests (repeated l.counter (blob_of l.requests blob_piece)) new_readers l.readers (Ok
    l.count)
