use Rattle.resp_laws.proofs.Steadiness.{no_prefix}
use Rattle.resp_laws.proofs.law_no_value_begins_another.Goals as goal

pub returns : goal.returns
returns c = no_prefix
