use Rattle.std.proofs.Common.{arith}
use Rattle.command_set.proofs.MovedAside.{popped_in}
use Rattle.command_set.proofs.aside.fill.Goals as goal

pub priors-preserved : goal.priors-preserved
priors-preserved c = grind (arith, popped_in)
