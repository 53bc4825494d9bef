use Rattle.std.proofs.Common.{sym, arith}
use Rattle.command_words.proofs.Readings.{no_control}
use Rattle.command_words.proofs.UnknownNames.{connection_alone, no_connection_name}
use Rattle.command_words.proofs.control.is_named_control.Goals as goal

pub returns-in-None : goal.returns-in-None
returns-in-None c = sym (no_control _ _ (no_connection_name _ _ c.in-None.ensures.none))

pub returns-in-Some : goal.returns-in-Some
returns-in-Some c = grind (arith, connection_alone)
