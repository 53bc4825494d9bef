use Rattle.storm_run.proofs.Storming.{Storming}
use Rattle.storm_run.proofs.play.play_events.Given as goal

abbrev pub invariant-loop-place : goal.invariant-loop-place
invariant-loop-place g l =
    Storming l.initial.world l.number l.steps l.place l.world l.schedule l.tally
