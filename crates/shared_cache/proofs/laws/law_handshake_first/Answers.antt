use Rattle.shared_cache.proofs.CommandLaws.{handshake_first}
use Rattle.shared_cache.proofs.laws.law_handshake_first.Goals as goal

pub returns : goal.returns
returns c = handshake_first
