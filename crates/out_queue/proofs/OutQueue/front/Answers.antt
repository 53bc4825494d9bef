use Rattle.std.proofs.Common.{◌∙◌, ap, take, ◌++◌}
use Rattle.out_queue.proofs.Fronts.{copied_all}
use Rattle.out_queue.proofs.OutQueue.front.Goals as goal

pub returns : goal.returns
returns c =
    c.from_vec.ensures
    ∙ copied_all c.args.max _ c.as_slices.result.0.now c.as_slices.result.1.now _
    c.self.inside.bytes _ _ _ _ c.in_ok-out.ensures.items
    c.as_slices.ensures.items c.self.view_is c.in_ok-copy_front.ensures
    c.in_ok-copy_front-2.ensures
    (c.in_ok-copy_bytes.ensures
    ∙ ap (λ r. take c.args.max (c.copy_front-2.new.out.items ++ r)) c.as_slice.ensures)
