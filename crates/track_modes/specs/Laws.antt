-- What holds of every mode, read off the definitions alone.
use Rattle.std.specs.Prelude.{◌≡◌, false}
use Rattle.command_words.specs.declared.command.Command.{Command}
use Rattle.track_modes.specs.Commands.{after_command, is_caching_command}
use Rattle.track_modes.specs.ModeState.{ModeState}

-- only right after CLIENT CACHING does what it said hold
abbrev pub CachingIsForOneCommand : Type 0
CachingIsForOneCommand =
    (command : Command) (m : ModeState) → is_caching_command command ≡ false
    → (after_command command m).caching ≡ false
