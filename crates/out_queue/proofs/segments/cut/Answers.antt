use Rattle.std.proofs.Common.{ap, length}
use Rattle.out_queue.proofs.Ends.{last_cut, last_shortened}
use Rattle.out_queue.proofs.segments.cut.Goals as goal

pub returns-then-left-length : goal.returns-then-left-length
returns-then-left-length c =
    last_shortened c.segments.left c.args.count _ c.segments.segments.items
    c.pop_back.new.self.items c.push_back_reserved.new.self.items c.in-Some.segment _ _
    c.in-Some.ensures.items (ap length c.as_slice-length.ensures) c.if-left-length.true
    c.segments.invariant.0 c.keep.ensures c.push_back_reserved.ensures.items

pub segments-preserved : goal.segments-preserved
segments-preserved c =
    last_cut c.segments.left c.args.count _ c.segments.segments.items c.pop_back.new.self.items
    c.in-Some.segment _ c.in-Some.ensures.items (ap length c.as_slice-length.ensures)
    c.if-left-length.false c.segments.invariant.0 c.segments.invariant.1
