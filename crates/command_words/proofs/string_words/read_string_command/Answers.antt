use Rattle.command_words.proofs.UnknownNames.{no_string_name}
use Rattle.command_words.proofs.string_words.read_string_command.Goals as goal

pub returns-in-None : goal.returns-in-None
returns-in-None c = no_string_name _ _ c.in-None.ensures.none
