use Rattle.std.proofs.Common.{arith, Ok, Err}
use Rattle.std.proofs.lemmas.Result.{err_from_is_err_and}
use Rattle.resp_value.specs.declared.octets.Words.{Words}
use Rattle.resp_stream.specs.Readers.{skipped}
use Rattle.resp_stream.specs.Request.{request_at}
use Rattle.stream_bench.proofs.Counting.{one_read, all_read, stopped, most_read, one_piece}
use Rattle.stream_bench.proofs.feed_requests.Goals as goal

pub returns-in_err-next_request : goal.returns-in_err-next_request
returns-in_err-next_request c =
    let p = err_from_is_err_and c.from_residual.result c.from_residual.ensures.1 in
    rw (p.1, p.2)
    (one_piece request_at skipped c.args.piece.now c.args.reader.now c.next_request.new.self
    (Err c.in_err-next_request.field-0.0)
    (stopped request_at skipped (λ (ws : Words). ws) _ 65536 c.loop.counter c.loop.requests _ _
    c.loop-test.true c.loop.invariant _ c.in_err-next_request.ensures.gives))

pub loop-preserved : goal.loop-preserved
loop-preserved c =
    one_read request_at skipped (λ (ws : Words). ws) _ 65536 c.loop.counter c.loop.requests _ _
    c.loop-test.true c.loop.invariant _ c.in-Some.field-0 _ c.in-Some.is
    c.in_ok-next_request.ensures.gives c.saturating_add-requests.ensures

pub returns-in-None : goal.returns-in-None
returns-in-None c =
    one_piece request_at skipped c.args.piece.now c.args.reader.now c.next_request.new.self
    (Ok c.loop.requests)
    (all_read request_at skipped (λ (ws : Words). ws) _ 65536 c.loop.counter c.loop.requests _ _
    c.loop-test.true c.loop.invariant _ c.in-None.is c.in_ok-next_request.ensures.gives)

pub returns : goal.returns
returns c =
    one_piece request_at skipped c.args.piece.now c.args.reader.now c.loop.reader
    (Ok c.loop.requests)
    (most_read request_at skipped (λ (ws : Words). ws) _ 65536 c.loop.counter c.loop.requests _
    (omega (arith, c.loop-test.false, c.loop.auto.counter-end)) c.loop.invariant)
