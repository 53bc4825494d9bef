use Rattle.shared_cache.proofs.LegalLogs.{legal_step}
use Rattle.shared_cache.proofs.laws.law_legal_step.Goals as goal

pub returns : goal.returns
returns c = legal_step
