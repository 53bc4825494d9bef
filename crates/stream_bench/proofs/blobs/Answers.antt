use Rattle.std.proofs.Common.{subst, ◌∙◌, arith, Ok, Err}
use Rattle.std.proofs.lemmas.Result.{err_from_is_err_and}
use Rattle.stream_bench.specs.Reading.{repeated, Reads, new_readers, blob_of, blob_piece}
use Rattle.stream_bench.proofs.Counting.{begins, fault_met, once_more_read, reads_not}
use Rattle.stream_bench.proofs.blobs.Goals as goal

pub returns-in_err-piece : goal.returns-in_err-piece
returns-in_err-piece c =
    let p = err_from_is_err_and c.from_residual.result c.from_residual.ensures.1 in (
      new_readers,
      rw (p.1, p.2, c.in_err-piece.ensures.err) (reads_not c.args.requests _
          new_readers),
    )

pub loop-init : goal.loop-init
loop-init c = begins c.args.requests (blob_of c.args.requests blob_piece) _ c.new-readers.ensures

pub returns-in_err-feed_blob : goal.returns-in_err-feed_blob
returns-in_err-feed_blob c =
    let p = err_from_is_err_and c.from_residual-in_err-feed_blob.result
    c.from_residual-in_err-feed_blob.ensures.1 in (
      c.feed_blob.new.self,
      rw (p.1, p.2)
          (fault_met c.args.requests (blob_of c.args.requests blob_piece) c.loop.counter
          c.args.size new_readers c.loop.readers
          c.feed_blob.new.self c.loop.count c.in_err-feed_blob.field-0.0 c.loop-test.true
          c.loop.invariant
          (subst (λ p. Reads c.args.requests (blob_of c.args.requests p) c.loop.readers
          c.feed_blob.new.self
          (Err c.in_err-feed_blob.field-0.0)) (c.as_slice.ensures.value ∙ c.in_ok-piece.ensures.ok)
          c.in_err-feed_blob.ensures)),
    )

pub loop-preserved : goal.loop-preserved
loop-preserved c =
    once_more_read c.args.requests (blob_of c.args.requests blob_piece) c.loop.counter new_readers
    c.loop.readers
    c.feed_blob.new.self c.loop.count c.in_ok-feed_blob.field-0 _ c.loop.invariant
    (subst (λ p. Reads c.args.requests (blob_of c.args.requests p) c.loop.readers
    c.feed_blob.new.self
    (Ok c.in_ok-feed_blob.field-0)) (c.as_slice.ensures.value ∙ c.in_ok-piece.ensures.ok)
    c.in_ok-feed_blob.ensures) c.saturating_add-count.ensures

pub returns : goal.returns
returns c = (
  c.loop.readers,
  subst (λ n. Reads c.args.requests (repeated n (blob_of c.args.requests blob_piece)) new_readers
      c.loop.readers
      (Ok c.loop.count)) (omega (arith, c.loop-test.false, c.loop.auto.counter-end))
      c.loop.invariant,
)
