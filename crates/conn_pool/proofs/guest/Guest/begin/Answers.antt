use Rattle.conn_pool.proofs.Tying.{within_none}
use Rattle.conn_pool.proofs.guest.Guest.begin.Goals as goal

pub begin-requires-clause-within : goal.begin-requires-clause-within
begin-requires-clause-within g c = within_none c.args.arrival.seat c.args.arrival.none
