use Rattle.wire_currency.proofs.Handshakes.{ran_first}
use Rattle.wire_currency.proofs.law_runs_in_order.Goals as goal

pub returns : goal.returns
returns g c = ran_first g.C.ClientKind.is_got
