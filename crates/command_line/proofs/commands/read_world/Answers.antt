use Rattle.std.proofs.Common.{map}
use Rattle.std.specs.Prelude.{string_bytes}
use Rattle.command_line.specs.Commands.{world_of, world_options, limits_from}
use Rattle.command_line.proofs.Reading.{settles_as, settles_none}
use Rattle.command_line.proofs.commands.read_world.Goals as goal

pub returns-in-Some : goal.returns-in-Some
unfolding world_of
returns-in-Some c =
    settles_as world_options (λ value is_set. limits_from 4000000 value) (map string_bytes
    c.args.words.now)
    c.in-Some.matches c.in_ok-matches.field-0 c.limit_settings.result
    (c.in_ok-matches.ensures _ _ c.in_ok-world_command.ensures) c.in-Some.is
    c.limit_settings.ensures

pub returns-in-None : goal.returns-in-None
unfolding world_of
returns-in-None c =
    settles_none world_options (λ value is_set. limits_from 4000000 value)
    (map string_bytes c.args.words.now)
    c.in_ok-matches.field-0 (c.in_ok-matches.ensures _ _ c.in_ok-world_command.ensures) c.in-None.is
