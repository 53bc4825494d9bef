-- The commands that a client's own handshake alone may send.
use Rattle.std.specs.Prelude.{ℕ, List, Bool, true, false, Ok, Err}
use Rattle.command_words.specs.declared.command.Command.{Command}
use Rattle.command_words.specs.declared.command.Command.TheVariants.{Hello, Reset, Quit, Shutdown}
use Rattle.command_words.specs.declared.command.Command.TheVariants.{Subscribe, Unsubscribe}
use Rattle.command_words.specs.declared.command.Command.TheVariants.{ClientTracking, ClientCaching}
use Rattle.command_words.specs.Reading.{Read}
use Rattle.command_words.specs.Words.{reading}

-- the commands that change how the server serves a connection
abbrev pub is_control_command : Command → Bool
is_control_command (Hello version) = true
is_control_command Reset = true
is_control_command Quit = true
is_control_command (Shutdown mode) = true
is_control_command (Subscribe channel) = true
is_control_command (Unsubscribe channel) = true
is_control_command (ClientTracking options) = true
is_control_command (ClientCaching on) = true
is_control_command _ = false

abbrev pub reads_as_control : Read Command → Bool
reads_as_control (Ok command) = is_control_command command
reads_as_control (Err fault) = false

-- the words read as such a command
unfoldable pub is_control : List (List ℕ) → Bool
is_control words = reads_as_control (reading words)
