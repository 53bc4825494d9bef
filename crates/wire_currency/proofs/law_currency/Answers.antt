use Rattle.wire_currency.proofs.Currency.{currency}
use Rattle.wire_currency.proofs.law_currency.Goals as goal

pub returns : goal.returns
returns g c = currency g.C.ClientKind.is_got g.C.ClientKind.as_asked g.C.ClientKind.remembered
