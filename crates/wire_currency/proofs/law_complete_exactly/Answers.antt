use Rattle.wire_currency.proofs.Complete.{completes_exactly}
use Rattle.wire_currency.proofs.law_complete_exactly.Goals as goal

pub returns : goal.returns
returns g c = completes_exactly g.C.ClientKind.is_got
