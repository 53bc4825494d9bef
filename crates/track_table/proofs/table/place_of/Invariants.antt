use Rattle.track_table.specs.Places.{NoneBefore}
use Rattle.track_table.proofs.table.place_of.Given as goal

abbrev pub invariant-loop-place : goal.invariant-loop-place
invariant-loop-place l = NoneBefore l.key l.rows l.place
