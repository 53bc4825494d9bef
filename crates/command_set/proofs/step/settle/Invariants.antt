use Rattle.std.proofs.Common.{◌≡◌, drop}
use Rattle.command_set.specs.InStep.{settled}
use Rattle.command_set.proofs.step.settle.Given as goal

abbrev pub invariant-loop-deadline : goal.invariant-loop-deadline
invariant-loop-deadline l =
    settled (drop l.deadline-index l.deadlines) l.space l.index
    ≡ settled l.deadlines l.space l.fn.index
