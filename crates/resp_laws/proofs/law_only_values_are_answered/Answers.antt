use Rattle.resp_laws.proofs.Answered.{only_values}
use Rattle.resp_laws.proofs.law_only_values_are_answered.Goals as goal

pub returns : goal.returns
returns c = only_values
