use Rattle.out_queue.proofs.Fronts.{passed_all}
use Rattle.out_queue.proofs.OutQueue.pass.Goals as goal

pub returns : goal.returns
returns c =
    passed_all c.args.max c.advance-count.result _ c.self.inside.bytes _ _ _ c.self.view_is
    c.advance-count.ensures.rest c.advance-count.ensures.most c.advance-count.ensures.count
    c.advance.ensures
