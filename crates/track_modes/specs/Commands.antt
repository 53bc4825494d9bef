-- What each command of a connection does to its mode (the pages of HELLO, RESET, SUBSCRIBE,
-- UNSUBSCRIBE, CLIENT TRACKING and CLIENT CACHING).
use Rattle.std.specs.Prelude.{ℕ, List, Bool, true, false, not, ◌&&◌, ◌||◌}
use Rattle.std.specs.Prelude.{if◌then◌else◌, Option, Some, None, codes}
use Rattle.std.specs.Str.{bytes_eq}
use Rattle.resp_value.specs.declared.value.Proto.{Proto}
use Rattle.resp_value.specs.declared.value.Proto.TheVariants.{Two, Three}
use Rattle.command_words.specs.declared.command.Command.{Command}
use Rattle.command_words.specs.declared.command.Command.TheVariants.{Hello, Reset, Quit, Ping}
use Rattle.command_words.specs.declared.command.Command.TheVariants.{Subscribe, Unsubscribe}
use Rattle.command_words.specs.declared.command.Command.TheVariants.{ClientTracking, ClientCaching}
use Rattle.track_modes.specs.declared.fault.ModeFault.{ModeFault}
use Rattle.track_modes.specs.declared.fault.ModeFault.TheVariants.{NoMemory}
use Rattle.track_modes.specs.ModeState.{ModeState, new_mode}
use Rattle.track_modes.specs.Tracked.{tracked, tracking_fault, caching_fault}

-- the channel of invalidations, which alone is served
abbrev pub channel : List ℕ
channel = codes "__redis__:invalidate"

-- subscribed on RESP2, a connection runs these alone
abbrev pub is_for_subscribers : Command → Bool
is_for_subscribers (Subscribe c) = true
is_for_subscribers (Unsubscribe c) = true
is_for_subscribers (Ping text) = true
is_for_subscribers Quit = true
is_for_subscribers Reset = true
is_for_subscribers _ = false

abbrev pub is_two : Proto → Bool
is_two Two = true
is_two Three = false

abbrev pub allows : ModeState → Command → Bool
allows m command = not (is_two m.proto && m.subscribed) || is_for_subscribers command

-- HELLO: 2 and 3 are the versions; another is refused and changes nothing
abbrev pub proto_after : List ℕ → Proto → Proto
proto_after version proto =
    if bytes_eq version (codes "2") then Two else
    if bytes_eq version (codes "3") then Three else proto

-- why the mode refuses a command that it allows
unfoldable pub fault_at : Command → Bool → ModeState → Option ModeFault
fault_at (ClientTracking o) target_exists m = tracking_fault o target_exists m.tracking
fault_at (ClientCaching is_yes) target_exists m = caching_fault is_yes m.tracking
fault_at _ target_exists m = None

-- what a command that it allows and does not refuse changes
abbrev pub changed : Command → ModeState → ModeState
changed (Hello (Some version)) m = record m { proto = proto_after version m.proto }
changed Reset m = new_mode
changed (ClientTracking o) m = record m { tracking = tracked o m.tracking }
changed (ClientCaching is_yes) m = record m { caching = true }
changed (Subscribe c) m = record m { subscribed = bytes_eq c channel || m.subscribed }
changed (Unsubscribe None) m = record m { subscribed = false }
changed (Unsubscribe (Some c)) m =
    record m { subscribed = not (bytes_eq c channel) && m.subscribed }
changed _ m = m

abbrev pub spent_mode : ModeState → ModeState
spent_mode m = record m { caching = false }

abbrev pub is_caching_command : Command → Bool
is_caching_command (ClientCaching is_yes) = true
is_caching_command _ = false

-- CLIENT CACHING is for the command after it; the end of any other ends it
abbrev pub ended : Command → ModeState → ModeState
ended command m = if is_caching_command command then m else spent_mode m

abbrev pub command_fault : Command → Bool → ModeState → Option ModeFault
command_fault command target_exists m =
    if allows m command then fault_at command target_exists m else None

-- the mode after a command that it does not refuse; one that it does not allow changes nothing
unfoldable pub after_command : Command → ModeState → ModeState
after_command command m =
    if allows m command then ended command (changed command m) else spent_mode m

abbrev pub is_no_memory : ModeFault → Bool
is_no_memory NoMemory = true
is_no_memory _ = false

-- a refused command ends CLIENT CACHING too; at want of memory it did not run
abbrev pub after_refusal : ModeFault → ModeState → ModeState
after_refusal fault m = if is_no_memory fault then m else spent_mode m

-- whether an allowed command may register prefixes
abbrev pub registers : Command → Bool
registers (ClientTracking o) = o.on && o.bcast
registers _ = false

abbrev pub may_register : Command → ModeState → Bool
may_register command m = allows m command && registers command
