use Rattle.script_bench.proofs.map.+find_in_threads+fn-find_in_threads-join+arg3.Given as goal

abbrev pub decreases-join+arg3 : goal.decreases-join+arg3
decreases-join+arg3 g l = l.left

abbrev pub decreases-find_in_threads : goal.decreases-find_in_threads
decreases-find_in_threads g l = l.threads
