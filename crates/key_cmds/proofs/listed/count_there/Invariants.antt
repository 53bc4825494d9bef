use Rattle.std.proofs.Common.{◌≡◌, ◌+◌, ◌≤◌, drop, length}
use Rattle.std.specs.FinMap.{contains_key}
use Rattle.std.specs.List.{filter}
use Rattle.key_cmds.proofs.listed.count_there.Given as goal

abbrev pub invariant-loop-key : goal.invariant-loop-key
invariant-loop-key l =
    (l.count + length (filter (contains_key l.space) (drop l.key-index l.words))
    ≡ length (filter (contains_key l.space) l.words)) × (l.count ≤ l.key-index)
