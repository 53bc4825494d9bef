use Rattle.std.proofs.Common.{arith, Ok, Err}
use Rattle.std.proofs.lemmas.Result.{err_from_is_err_and}
use Rattle.resp_value.specs.ValueTree.{tree_of}
use Rattle.resp_stream.specs.Value.{value_at}
use Rattle.stream_bench.proofs.Counting.{one_read, all_read, stopped, most_read, one_piece}
use Rattle.stream_bench.proofs.feed_values.Goals as goal

pub returns-in_err-next_value : goal.returns-in_err-next_value
returns-in_err-next_value c =
    let p = err_from_is_err_and c.from_residual.result c.from_residual.ensures.1 in
    rw (p.1, p.2)
    (one_piece value_at (λ t. t) c.args.piece.now c.args.reader.now c.next_value.new.self
    (Err c.in_err-next_value.field-0.0)
    (stopped value_at (λ t. t) tree_of _ 65536 c.loop.counter c.loop.values _ _ c.loop-test.true
    c.loop.invariant _ c.in_err-next_value.ensures.gives))

pub loop-preserved : goal.loop-preserved
loop-preserved c =
    one_read value_at (λ t. t) tree_of _ 65536 c.loop.counter c.loop.values _ _ c.loop-test.true
    c.loop.invariant _ c.in-Some.field-0 _ c.in-Some.is c.in_ok-next_value.ensures.gives
    c.saturating_add-values.ensures

pub returns-in-None : goal.returns-in-None
returns-in-None c =
    one_piece value_at (λ t. t) c.args.piece.now c.args.reader.now c.next_value.new.self
    (Ok c.loop.values)
    (all_read value_at (λ t. t) tree_of _ 65536 c.loop.counter c.loop.values _ _ c.loop-test.true
    c.loop.invariant _ c.in-None.is c.in_ok-next_value.ensures.gives)

pub returns : goal.returns
returns c =
    one_piece value_at (λ t. t) c.args.piece.now c.args.reader.now c.loop.reader (Ok c.loop.values)
    (most_read value_at (λ t. t) tree_of _ 65536 c.loop.counter c.loop.values _
    (omega (arith, c.loop-test.false, c.loop.auto.counter-end)) c.loop.invariant)
