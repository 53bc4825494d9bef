use Rattle.std.proofs.Common.{arith}
use Rattle.script_bench.proofs.Filling.{ready_first, ready_more}
use Rattle.script_bench.proofs.client.ready_client.Goals as goal

pub loop-key-init : goal.loop-key-init
loop-key-init g c =
    ready_first _ c.args.keys _ _ _ c.setup.ensures.setup c.in_ok-lock.ensures.seat
    c.in_ok-greet.ensures

pub loop-key-preserved : goal.loop-key-preserved
loop-key-preserved g c =
    ready_more _ c.args.keys c.loop-key.key _ _ _ (omega arith) c.loop-key.invariant
    c.in_ok-fill.ensures
