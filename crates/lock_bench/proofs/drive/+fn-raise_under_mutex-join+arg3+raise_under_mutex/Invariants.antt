use Rattle.lock_bench.proofs.drive.+fn-raise_under_mutex-join+arg3+raise_under_mutex.Given as goal

abbrev pub decreases-join+arg3 : goal.decreases-join+arg3
decreases-join+arg3 g l = l.others

abbrev pub decreases-raise_under_mutex : goal.decreases-raise_under_mutex
decreases-raise_under_mutex g l = l.threads
