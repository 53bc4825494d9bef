use Rattle.std.proofs.Common.{[], ◌∷◌}
use Rattle.std.proofs.lemmas.Result.{err_from_is_err_and}
use Rattle.stream_bench.proofs.Counting.{fault_met, not_once_read, once_more_read}
use Rattle.stream_bench.proofs.Readers.feed_often.Goals as goal

pub loop-init : goal.loop-init
loop-init c = not_once_read c.args.requests (c.args.piece.now ∷ []) c.args.self.now

pub returns-in_err-feed : goal.returns-in_err-feed
returns-in_err-feed c =
    let p = err_from_is_err_and c.from_residual.result c.from_residual.ensures.1 in
    rw (p.1, p.2)
    (fault_met c.args.requests (c.args.piece.now ∷ []) c.loop.counter c.args.times _ c.loop.self _
    c.loop.count _ c.loop-test.true c.loop.invariant c.in_err-feed.ensures)

pub loop-preserved : goal.loop-preserved
loop-preserved c =
    once_more_read c.args.requests (c.args.piece.now ∷ []) c.loop.counter _ c.loop.self _
    c.loop.count _ _ c.loop.invariant c.in_ok-feed.ensures c.saturating_add-count.ensures
