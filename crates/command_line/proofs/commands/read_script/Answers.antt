use Rattle.std.proofs.Common.{map}
use Rattle.std.specs.Prelude.{string_bytes}
use Rattle.command_line.specs.Commands.{script_of, script_options, script_from}
use Rattle.command_line.proofs.Reading.{settles_as, settles_none}
use Rattle.command_line.proofs.commands.read_script.Goals as goal

pub returns-in-Some : goal.returns-in-Some
unfolding script_of
returns-in-Some c =
    settles_as script_options script_from (map string_bytes c.args.words.now)
    c.in-Some.matches c.in_ok-matches.field-0 c.script_settings.result
    (c.in_ok-matches.ensures _ _ c.in_ok-script_command.ensures) c.in-Some.is
    c.script_settings.ensures

pub returns-in-None : goal.returns-in-None
unfolding script_of
returns-in-None c =
    settles_none script_options script_from (map string_bytes c.args.words.now)
    c.in_ok-matches.field-0
    (c.in_ok-matches.ensures _ _ c.in_ok-script_command.ensures) c.in-None.is
