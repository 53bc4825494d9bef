use Rattle.std.proofs.Common.{map}
use Rattle.std.specs.Prelude.{string_bytes}
use Rattle.command_line.specs.Commands.{serve_of, serve_options, serve_from}
use Rattle.command_line.proofs.Reading.{settles_as, settles_none}
use Rattle.command_line.proofs.commands.read_serve.Goals as goal

pub returns-in-Some : goal.returns-in-Some
unfolding serve_of
returns-in-Some c =
    settles_as serve_options (λ value is_set. serve_from value) (map string_bytes c.args.words.now)
    c.in-Some.matches c.in_ok-matches.field-0 c.serve_settings.result
    (c.in_ok-matches.ensures _ _ c.in_ok-serve_command.ensures) c.in-Some.is
    c.serve_settings.ensures

pub returns-in-None : goal.returns-in-None
unfolding serve_of
returns-in-None c =
    settles_none serve_options (λ value is_set. serve_from value)
    (map string_bytes c.args.words.now)
    c.in_ok-matches.field-0 (c.in_ok-matches.ensures _ _ c.in_ok-serve_command.ensures) c.in-None.is
