use Rattle.std.proofs.Common.{◌≡◌, ◌++◌, take}
use Rattle.expiry.specs.Index.{keys_of}
use Rattle.command_set.proofs.due.push_keys.Given as goal

abbrev pub invariant-loop-deadline : goal.invariant-loop-deadline
invariant-loop-deadline l =
    l.keys ≡ l.fn.keys ++ keys_of (take l.deadline-index l.deadlines)
