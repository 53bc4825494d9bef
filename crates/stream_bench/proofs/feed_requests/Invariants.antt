use Rattle.std.proofs.Common.{◌-◌}
use Rattle.resp_stream.specs.Parse.{batch_in}
use Rattle.resp_stream.specs.Readers.{skipped}
use Rattle.resp_stream.specs.Request.{request_at}
use Rattle.resp_stream.specs.Stream.{fed}
use Rattle.stream_bench.proofs.Counting.{HasRead}
use Rattle.stream_bench.proofs.feed_requests.Given as goal

abbrev pub invariant-loop : goal.invariant-loop
invariant-loop l =
    HasRead (batch_in request_at skipped 65536 (fed l.fn.reader l.fn.piece))
    (batch_in request_at skipped (65536 - l.counter) l.reader) l.requests
