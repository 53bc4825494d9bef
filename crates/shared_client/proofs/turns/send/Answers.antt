use Rattle.std.proofs.Common.{refl}
use Rattle.shared_client.proofs.Outcomes.{refuses}
use Rattle.shared_client.proofs.turns.send.Goals as goal

pub returns-in-Ok-Refused-clause-err : goal.returns-in-Ok-Refused-clause-err
returns-in-Ok-Refused-clause-err g c =
    refuses _ _ _ _ _ c.in-Ok-Refused.field-0-is c.in-Ok-Refused.ensures.ok refl refl
