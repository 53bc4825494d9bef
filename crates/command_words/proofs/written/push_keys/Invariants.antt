use Rattle.std.proofs.Common.{◌≡◌, ◌++◌, length}
use Rattle.command_words.specs.Queries.{keys_in_turn}
use Rattle.command_words.proofs.written.push_keys.Given as goal

abbrev pub invariant-pairs : goal.invariant-pairs
invariant-pairs l = l.out ++ keys_in_turn l.rest ≡ l.fn.out ++ keys_in_turn l.words

abbrev pub decreases-pairs : goal.decreases-pairs
decreases-pairs l = length l.rest
