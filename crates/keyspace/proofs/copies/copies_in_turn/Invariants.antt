use Rattle.std.proofs.Common.{◌≡◌, ◌++◌, map, length}
use Rattle.resp_value.specs.Tree.{in_turn}
use Rattle.keyspace.proofs.copies.copies_in_turn.Given as goal

abbrev pub invariant-pairs : goal.invariant-pairs
invariant-pairs l = map (λ p. (p.0.items, p.1)) l.pairs.items ++ in_turn l.rest ≡ in_turn l.fn.words

abbrev pub decreases-pairs : goal.decreases-pairs
decreases-pairs l = length l.rest
