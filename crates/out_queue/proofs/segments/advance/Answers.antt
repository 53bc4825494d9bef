use Rattle.std.proofs.Common.{ap, length}
use Rattle.out_queue.proofs.Ends.{first_passed}
use Rattle.out_queue.proofs.segments.advance.Goals as goal

pub segments-preserved : goal.segments-preserved
segments-preserved c =
    first_passed c.segments.left c.args.most _ c.segments.segments.items c.pop_front.new.self.items
    c.in-Some.segment _ c.in-Some.ensures.items (ap length c.as_slice-length.ensures)
    c.if-left-length.false c.segments.invariant.0 c.segments.invariant.1 c.segments.invariant.2
