use Rattle.std.proofs.Common.{◌≡◌, drop}
use Rattle.command_words.specs.Keys.{remove_each}
use Rattle.expiry.specs.Index.{keys_of}
use Rattle.command_set.proofs.due.remove_keys.Given as goal

abbrev pub invariant-loop-deadline : goal.invariant-loop-deadline
invariant-loop-deadline l =
    remove_each (keys_of (drop l.deadline-index l.deadlines)) l.space
    ≡ remove_each (keys_of l.deadlines) l.fn.space
