use Rattle.lock_bench.proofs.tests.+fn-rounds_in_threads-join+arg3+rounds_in_threads.Given as goal

abbrev pub decreases-join+arg3 : goal.decreases-join+arg3
decreases-join+arg3 g l = l.others

abbrev pub decreases-rounds_in_threads : goal.decreases-rounds_in_threads
decreases-rounds_in_threads g l = l.some
