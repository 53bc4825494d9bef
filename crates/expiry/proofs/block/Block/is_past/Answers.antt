use Rattle.std.proofs.Common.{arith}
use Rattle.expiry.proofs.Past.{last_past}
use Rattle.expiry.proofs.block.Block.is_past.Goals as goal

pub returns-in-Some : goal.returns-in-Some
returns-in-Some c = grind (arith, last_past)
