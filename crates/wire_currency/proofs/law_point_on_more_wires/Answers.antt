use Rattle.wire_currency.proofs.Currency.{points_apart}
use Rattle.wire_currency.proofs.law_point_on_more_wires.Goals as goal

pub returns : goal.returns
returns g c = points_apart g.C.ClientKind.is_got
