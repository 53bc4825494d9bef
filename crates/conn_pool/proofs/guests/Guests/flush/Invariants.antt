use Rattle.std.proofs.Common.{◌≡◌}
use Rattle.conn_pool.proofs.guests.Guests.flush.Given as goal

abbrev pub invariant-loop-number : goal.invariant-loop-number
invariant-loop-number g l = l.self ≡ l.fn.self
