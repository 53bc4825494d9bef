use Rattle.command_words.proofs.UnknownNames.{no_client_name}
use Rattle.command_words.proofs.client_words.read_client_command.Goals as goal

pub returns-in-None : goal.returns-in-None
returns-in-None c = no_client_name _ _ c.in-None.ensures.none
