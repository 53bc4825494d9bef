use Rattle.std.proofs.Common.{ap, sym}
use Rattle.command_words.specs.Control.{reads_as_control}
use Rattle.command_words.proofs.UnknownNames.{no_client_name}
use Rattle.command_words.proofs.control.is_client_named.Goals as goal

pub returns-in-None : goal.returns-in-None
returns-in-None c = sym (ap reads_as_control (no_client_name _ _ c.in-None.ensures.none))
