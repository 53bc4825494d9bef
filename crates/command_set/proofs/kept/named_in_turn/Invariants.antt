use Rattle.std.proofs.Common.{◌≡◌, ◌++◌, length}
use Rattle.command_words.specs.Queries.{keys_in_turn}
use Rattle.command_set.specs.Kept.{named_kept}
use Rattle.command_set.specs.Priors.{priors_of}
use Rattle.command_set.proofs.kept.named_in_turn.Given as goal

abbrev pub invariant-pairs : goal.invariant-pairs
invariant-pairs l =
    priors_of l.out.items ++ named_kept l.key (keys_in_turn l.left) l.fields
    ≡ named_kept l.key (keys_in_turn l.fn.words) l.fields

abbrev pub decreases-pairs : goal.decreases-pairs
decreases-pairs l = length l.left
