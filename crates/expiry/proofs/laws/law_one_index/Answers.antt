use Rattle.expiry.proofs.Members.{one_index}
use Rattle.expiry.proofs.laws.law_one_index.Goals as goal

pub returns : goal.returns
returns c = one_index
