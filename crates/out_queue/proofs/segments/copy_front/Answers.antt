use Rattle.std.proofs.Common.{◌+◌, ◌++◌, ap, ◌∙◌, sym, take}
use Rattle.out_queue.proofs.Fronts.{copied_more, copied_enough, within}
use Rattle.out_queue.proofs.segments.copy_front.Goals as goal

pub loop-segment-preserved : goal.loop-segment-preserved
loop-segment-preserved c = (
  copied_more c.args.most c.args.out.now.items c.args.segments.now c.loop-segment.segment-index
      c.segment-item.result c.loop-segment.out.items c.copy_bytes.new.out.items
      c.loop-segment-test.true c.segment-item.is c.loop-segment.invariant.0
      (c.in_ok-copy_bytes.ensures
      ∙ ap (λ r. take c.args.most (c.loop-segment.out.items ++ r)) c.as_slice.ensures),
  within _ _ _ c.in_ok-copy_bytes.ensures,
)

pub returns-then-len-most : goal.returns-then-len-most
returns-then-len-most c =
    copied_enough c.args.most c.args.out.now.items c.args.segments.now
    (c.loop-segment.segment-index + 1) c.copy_bytes.new.out.items
    (copied_more c.args.most c.args.out.now.items c.args.segments.now
    c.loop-segment.segment-index c.segment-item.result c.loop-segment.out.items
    c.copy_bytes.new.out.items c.loop-segment-test.true c.segment-item.is
    c.loop-segment.invariant.0 (c.in_ok-copy_bytes.ensures
    ∙ ap (λ r. take c.args.most (c.loop-segment.out.items ++ r)) c.as_slice.ensures))
    (sym c.copy_bytes.new.out.ok.0 ∙ sym c.len.ensures ∙ c.if-len-most.true)
