use Rattle.shared_cache.proofs.CommandLaws.{commands_have_words}
use Rattle.shared_cache.proofs.laws.law_commands_have_words.Goals as goal

pub returns : goal.returns
returns c = commands_have_words
