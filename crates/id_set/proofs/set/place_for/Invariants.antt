use Rattle.id_set.specs.Ids.{AllBelow}
use Rattle.id_set.proofs.set.place_for.Given as goal

abbrev pub invariant-loop-place : goal.invariant-loop-place
invariant-loop-place l = AllBelow l.id l.ids l.place
