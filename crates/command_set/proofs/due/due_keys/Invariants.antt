use Rattle.std.proofs.Common.{◌≡◌, take}
use Rattle.expiry.specs.Blocks.{joined}
use Rattle.command_set.specs.InStep.{due_keys}
use Rattle.command_set.proofs.due.due_keys.Given as goal

abbrev pub invariant-loop-block : goal.invariant-loop-block
invariant-loop-block l = l.keys ≡ due_keys l.moment (joined (take l.block-index l.block-items))
