use Rattle.std.proofs.Common.{◌≡◌, ◌++◌, map, length}
use Rattle.std.specs.List.{filter}
use Rattle.resp_value.specs.Tree.{in_turn}
use Rattle.command_words.specs.KeyLists.{each_once}
use Rattle.command_rows.proofs.KeysMet.{is_fresh}
use Rattle.string_cmds.proofs.KeysOnce.{fields}
use Rattle.string_cmds.proofs.keys.few_once.Given as goal

abbrev pub invariant-keys : goal.invariant-keys
invariant-keys l =
    l.keys ++ filter (is_fresh (fields l.keys)) (each_once (map (λ p. p.0) (in_turn l.left)))
    ≡ each_once (map (λ p. p.0) (in_turn l.fn.words))

abbrev pub decreases-keys : goal.decreases-keys
decreases-keys l = length l.left
