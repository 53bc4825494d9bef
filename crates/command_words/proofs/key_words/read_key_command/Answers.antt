use Rattle.command_words.proofs.UnknownNames.{no_key_name}
use Rattle.command_words.proofs.key_words.read_key_command.Goals as goal

pub returns-in-None : goal.returns-in-None
returns-in-None c = no_key_name _ _ c.in-None.ensures.none
