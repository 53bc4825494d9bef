use Rattle.lock_bench.proofs.drive.+fn-play_in_threads-join+arg3+play_in_threads.Given as goal

abbrev pub decreases-join+arg3 : goal.decreases-join+arg3
decreases-join+arg3 g l = l.others

abbrev pub decreases-play_in_threads : goal.decreases-play_in_threads
decreases-play_in_threads g l = l.threads
