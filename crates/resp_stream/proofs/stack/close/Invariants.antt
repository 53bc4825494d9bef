use Rattle.std.proofs.Common.{◌≡◌, ℕ, ◌+◌, List, length, reverse}
use Rattle.resp_value.specs.ValueTree.{tree_of}
use Rattle.resp_stream.specs.ValueSteps.{HasRead}
use Rattle.resp_stream.proofs.stack.close.Given as goal

abbrev pub invariant-open : goal.invariant-open
invariant-open l =
    (l.room + length l.stack.items ≡ l.fn.room + length l.fn.stack.items)
    × ((whole : ℕ) (text : List ℕ) (at : ℕ)
    → HasRead whole text at l.fn.room (reverse l.fn.stack.items) (tree_of l.fn.value)
    → HasRead whole text at l.room (reverse l.stack.items) (tree_of l.value))

abbrev pub decreases-open : goal.decreases-open
decreases-open l = length l.stack.items
