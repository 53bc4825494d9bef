use Rattle.std.proofs.Common.{map}
use Rattle.std.specs.Prelude.{string_bytes}
use Rattle.command_line.specs.Commands.{storm_of, storm_options, storm_from}
use Rattle.command_line.proofs.Reading.{settles_as, settles_none}
use Rattle.command_line.proofs.commands.read_storm.Goals as goal

pub returns-in-Some : goal.returns-in-Some
unfolding storm_of
returns-in-Some c =
    settles_as storm_options (λ value is_set. storm_from value) (map string_bytes c.args.words.now)
    c.in-Some.matches c.in_ok-matches.field-0 c.storm_settings.result
    (c.in_ok-matches.ensures _ _ c.in_ok-storm_command.ensures) c.in-Some.is
    c.storm_settings.ensures

pub returns-in-None : goal.returns-in-None
unfolding storm_of
returns-in-None c =
    settles_none storm_options (λ value is_set. storm_from value)
    (map string_bytes c.args.words.now)
    c.in_ok-matches.field-0 (c.in_ok-matches.ensures _ _ c.in_ok-storm_command.ensures) c.in-None.is
