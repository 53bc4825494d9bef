use Rattle.command_set.proofs.Steps.{nothing_is_in_step}
use Rattle.command_set.proofs.laws.law_nothing_is_in_step.Goals as goal

pub returns : goal.returns
returns c = nothing_is_in_step
