use Rattle.std.proofs.Common.{arith}
use Rattle.expiry.proofs.Past.{first_in}
use Rattle.expiry.proofs.blocks.first.Goals as goal

pub returns : goal.returns
returns c = grind (arith, first_in)
