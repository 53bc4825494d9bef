use Rattle.expiry.proofs.Members.{setting_adds_one}
use Rattle.expiry.proofs.laws.law_setting_adds_one.Goals as goal

pub returns : goal.returns
returns c = setting_adds_one
