use Rattle.std.proofs.Common.{◌≡◌, drop}
use Rattle.command_words.specs.Keys.{remove_each}
use Rattle.expiry.specs.Blocks.{joined}
use Rattle.command_set.specs.InStep.{due_keys}
use Rattle.command_set.proofs.due.remove_due.Given as goal

abbrev pub invariant-loop-block : goal.invariant-loop-block
invariant-loop-block l =
    remove_each (due_keys l.moment (joined (drop l.block-index l.blocks))) l.space
    ≡ remove_each (due_keys l.moment (joined l.blocks)) l.fn.space
