use Rattle.std.proofs.Common.{◌≡◌, ◌++◌, map, length}
use Rattle.std.specs.Prelude.{option_map}
use Rattle.resp_value.specs.ValueTree.{tree_of}
use Rattle.resp_value.proofs.InTurn.{turns}
use Rattle.resp_value.proofs.value.Pairs.in_turn.Given as goal

abbrev pub invariant-values : goal.invariant-values
invariant-values l =
    (turns l.pairs (option_map tree_of l.key) ++ map tree_of l.value-iterator.rest.items
    ≡ l.fn.values)
    × (l.value-iterator.rest.len ≡ length l.value-iterator.rest.items)
