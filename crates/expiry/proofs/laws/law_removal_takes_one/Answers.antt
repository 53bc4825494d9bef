use Rattle.expiry.proofs.Members.{removal_takes_one}
use Rattle.expiry.proofs.laws.law_removal_takes_one.Goals as goal

pub returns : goal.returns
returns c = removal_takes_one
