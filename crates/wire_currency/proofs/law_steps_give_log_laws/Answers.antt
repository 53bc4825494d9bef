use Rattle.wire_currency.proofs.Opened.{opened_laws}
use Rattle.wire_currency.proofs.law_steps_give_log_laws.Goals as goal

pub returns : goal.returns
returns g c = opened_laws g.C.ClientKind.is_legal
