use Rattle.std.proofs.Common.{◌≡◌, ◌++◌, drop}
use Rattle.command_set.specs.InStep.{deadlines_of}
use Rattle.command_set.proofs.touched.deadlines_of.Given as goal

abbrev pub invariant-loop-key : goal.invariant-loop-key
invariant-loop-key l =
    l.out.items ++ deadlines_of (drop l.key-index l.keys) l.space ≡ deadlines_of l.keys l.space
