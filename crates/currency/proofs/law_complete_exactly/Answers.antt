use Rattle.currency.proofs.CompleteExactly.{completes_exactly}
use Rattle.currency.proofs.law_complete_exactly.Goals as goal

pub returns : goal.returns
returns c = completes_exactly
