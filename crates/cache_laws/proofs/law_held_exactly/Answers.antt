use Rattle.cache_laws.proofs.Exactly.{holds_exactly}
use Rattle.cache_laws.proofs.law_held_exactly.Goals as goal

pub returns : goal.returns
returns c = holds_exactly
