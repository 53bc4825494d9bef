use Rattle.std.proofs.Common.{◌≡◌, ◌++◌, drop}
use Rattle.keyspace.specs.Places.{all_placed}
use Rattle.keyspace.proofs.placed.copies_of.Given as goal

abbrev pub invariant-loop-placed : goal.invariant-loop-placed
invariant-loop-placed l =
    all_placed l.copies.items ++ all_placed (drop l.placed-index l.all) ≡ all_placed l.fn.all
