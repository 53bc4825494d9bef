use Rattle.command_set.proofs.Steps.{one_index_is_in_step}
use Rattle.command_set.proofs.laws.law_one_index_is_in_step.Goals as goal

pub returns : goal.returns
returns c = one_index_is_in_step
