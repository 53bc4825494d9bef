use Rattle.conn_pool.proofs.crew.+fan_out+fn-fan_out-join+arg2+fn-fan_out-join+arg3.Given as goal

abbrev pub decreases-join+arg2 : goal.decreases-join+arg2
decreases-join+arg2 g l = l.ours

abbrev pub decreases-join+arg3 : goal.decreases-join+arg3
decreases-join+arg3 g l = l.theirs

abbrev pub decreases-fan_out : goal.decreases-fan_out
decreases-fan_out g l = l.workers
