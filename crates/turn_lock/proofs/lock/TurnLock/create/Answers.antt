use Rattle.turn_lock.proofs.Keeps.{opens}
use Rattle.turn_lock.proofs.lock.TurnLock.create.Goals as goal
use Rattle.std.proofs.Common.{arith}

pub new-requires : goal.new-requires
new-requires g c = grind (arith, opens)
