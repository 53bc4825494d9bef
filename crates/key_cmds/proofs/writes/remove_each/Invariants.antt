use Rattle.std.proofs.Common.{◌≡◌, drop}
use Rattle.command_words.specs.Keys.{remove_each}
use Rattle.key_cmds.proofs.writes.remove_each.Given as goal

abbrev pub invariant-loop-key : goal.invariant-loop-key
invariant-loop-key l =
    remove_each (drop l.key-index l.words) l.space ≡ remove_each l.words l.fn.space
