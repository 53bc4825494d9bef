use Rattle.script_run.proofs.callers.+fn-play_threads-join+arg2+play_threads.Given as goal

abbrev pub decreases-join+arg2 : goal.decreases-join+arg2
decreases-join+arg2 g l = l.rest.threads

abbrev pub decreases-play_threads : goal.decreases-play_threads
decreases-play_threads g l = l.task.threads
