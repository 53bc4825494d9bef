use Rattle.command_words.proofs.UnknownNames.{no_hash_name}
use Rattle.command_words.proofs.hash_words.read_hash_command.Goals as goal

pub returns-in-None : goal.returns-in-None
returns-in-None c = no_hash_name _ _ c.in-None.ensures.none
