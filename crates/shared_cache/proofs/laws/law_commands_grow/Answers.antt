use Rattle.shared_cache.proofs.CommandLists.{commands_grow}
use Rattle.shared_cache.proofs.laws.law_commands_grow.Goals as goal

pub returns : goal.returns
returns c = commands_grow
