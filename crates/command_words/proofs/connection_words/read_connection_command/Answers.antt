use Rattle.command_words.proofs.UnknownNames.{no_connection_name}
use Rattle.command_words.proofs.connection_words.read_connection_command.Goals as goal

pub returns-in-None : goal.returns-in-None
returns-in-None c = no_connection_name _ _ c.in-None.ensures.none
