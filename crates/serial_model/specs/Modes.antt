-- What a connection's own commands make of it, and of what is kept for it (the pages
-- of HELLO, CLIENT TRACKING, SUBSCRIBE, QUIT and SHUTDOWN).
use Rattle.std.specs.Prelude.{ℕ, List, [], ◌∷◌, Option, Some, None, Result, Ok, Err, pos, codes}
use Rattle.std.specs.Prelude.{is_some, if◌then◌else◌, Bool, true, false, not, ◌&&◌, ℤ, negsuc}
use Rattle.std.specs.Prelude.{map}
use Rattle.std.specs.Option.{option_map_or}
use Rattle.std.specs.Str.{bytes_eq}
use Rattle.resp_value.specs.declared.value.Value.{Value}
use Rattle.resp_value.specs.declared.value.Value.TheVariants.{Array, Blob, Error, Map, Push, Simple}
use Rattle.resp_value.specs.declared.value.Proto.{Proto}
use Rattle.resp_value.specs.declared.value.Proto.TheVariants.{Two, Three}
use Rattle.resp_value.specs.Tree.{Tree, blob, number, null, array, set, end, trees_of}
use Rattle.command_words.specs.declared.command.Command.{Command}
use Rattle.command_words.specs.declared.command.Command.TheVariants.{ClientTracking, Reset}
use Rattle.command_words.specs.declared.command.Command.TheVariants as command
use Rattle.command_words.specs.declared.command.TrackOptions.{TrackOptions}
use Rattle.command_words.specs.declared.command.WordFault.{WordFault}
use Rattle.command_words.specs.Integers.{integer_of}
use Rattle.command_words.specs.Queries.{read}
use Rattle.track_modes.specs.declared.fault.ModeFault.{ModeFault}
use Rattle.track_modes.specs.declared.tracking.Tracking.{Tracking}
use Rattle.track_modes.specs.declared.tracking.Tracking.TheVariants.{Off, On}
use Rattle.track_modes.specs.ModeState.{ModeState, flags, prefixes_of, remembers_read}
use Rattle.track_modes.specs.Commands.{after_refusal, allows, changed, channel, ended, fault_at}
use Rattle.track_modes.specs.Commands.{is_two, spent_mode}
use Rattle.track_modes.specs.Texts.{mode_fault_text}
use Rattle.track_modes.specs.Tracked.{tracked}

-- the protocol of a version's word, or the error
abbrev pub version_of : List ℕ → Result Proto (List ℕ)
version_of word =
    if bytes_eq word (codes "2") then Ok Two else
    if bytes_eq word (codes "3") then Ok Three else
    if is_some (integer_of word) then Err (codes "NOPROTO unsupported protocol version") else
    Err (codes "ERR Protocol version is not an integer or out of range")

-- the protocol that HELLO leaves in force, or the error; without a version it stays
abbrev pub hello : Option (List ℕ) → Proto → Result Proto (List ℕ)
hello None proto = Ok proto
hello (Some word) proto = version_of word

abbrev pub version : Proto → ℕ
version Two = 2
version Three = 3

-- what HELLO tells of the server and of the connection
abbrev pub greeting : Proto → ℕ → List (Tree × Tree)
greeting proto id =
    (blob (codes "server"), blob (codes "redis"))
    ∷ (blob (codes "version"), blob (codes "7.0.0"))
    ∷ (blob (codes "proto"), number (pos (version proto)))
    ∷ (blob (codes "id"), number (pos id))
    ∷ (blob (codes "mode"), blob (codes "standalone"))
    ∷ (blob (codes "role"), blob (codes "master"))
    ∷ (blob (codes "modules"), array end)
    ∷ []

abbrev pub hello_reply : ℕ → Result Proto (List ℕ) → Value
hello_reply id (Ok proto) = Map (greeting proto id)
hello_reply id (Err text) = Error text

-- ---- tracking

-- the connection that a command names as the target of a redirection; with OFF the options are read
-- and have no effect
abbrev pub target_in : TrackOptions → Option ℕ
target_in o = if o.on then o.redirect else None

abbrev pub target_of : Result Command WordFault → Option ℕ
target_of (Ok (ClientTracking o)) = target_in o
target_of _ = None

-- what is answered to a command that changes its connection's mode alone
abbrev pub accepted : Option ModeFault → Value
accepted None = Simple (codes "OK")
accepted (Some fault) = Error (mode_fault_text fault)

-- ---- what a connection is told of the server and of itself

-- subscribed on the second protocol a connection is sent messages, and replies in their form
abbrev pub is_confined : ModeState → Bool
is_confined m = is_two m.proto && m.subscribed

abbrev pub pong : ModeState → Option (List ℕ) → Value
pong m text =
    if is_confined m
    then Array (blob (codes "pong") ∷ blob (option_map_or (λ t. t) text []) ∷ [])
    else option_map_or Blob text (Simple (codes "PONG"))

-- the connection that messages are redirected to: 0 where there is none, -1 where tracking is off
-- (CLIENT GETREDIR)
abbrev pub redirect_number : Tracking → ℤ
redirect_number Off = negsuc 0
redirect_number (On s) = option_map_or pos s.redirect (pos 0)

-- how it tracks, and whether its redirection is broken (CLIENT TRACKINGINFO)
abbrev pub tracking_info : Bool → ModeState → List (Tree × Tree)
tracking_info is_broken m =
    (blob (codes "flags"), set (trees_of (map blob (flags is_broken m))))
    ∷ (blob (codes "redirect"), number (redirect_number m.tracking))
    ∷ (blob (codes "prefixes"), array (trees_of (map blob (prefixes_of m.tracking))))
    ∷ []

-- ---- the channel of invalidations (SUBSCRIBE, UNSUBSCRIBE)

-- what is subscribed to and left: the word, the channel, and to how many the connection is then
-- subscribed
abbrev pub subscription : List ℕ → Tree → Bool → Value
subscription word channel subscribed =
    Push (blob word ∷ channel ∷ number (pos (if subscribed then 1 else 0)) ∷ [])

abbrev pub subscribe_reply : List ℕ → Value
subscribe_reply c =
    if bytes_eq c channel then subscription (codes "subscribe") (blob c) true
    else Error (codes "ERR channel not served")

-- without a channel it leaves the one that it is subscribed to, if it is
abbrev pub left_channel : Option (List ℕ) → Bool → Tree
left_channel (Some c) subscribed = blob c
left_channel None subscribed = if subscribed then blob channel else null

abbrev pub unsubscribe_reply : Option (List ℕ) → ModeState → Value
unsubscribe_reply c m =
    subscription (codes "unsubscribe") (left_channel c m.subscribed)
    (changed (command.Unsubscribe c) m).subscribed

-- ---- what a command makes of its connection

-- who runs a command: a connection in its mode; its redirection is broken; the target that the
-- command names has not ended
pub record Runner : Type 0 where
  pub id : ℕ
  pub mode : ModeState
  pub is_broken : Bool
  pub target_exists : Bool

-- what a command does to what is kept for its connection: it remembers these keys too; these
-- prefixes are registered; or nothing is kept. The last two mend a broken redirection.
pub data Memory : Type 0 where
  Remembers : List (List ℕ) → Memory
  Registers : List (List ℕ) → Memory
  Forgets : Memory

abbrev pub mends : Memory → Bool
mends (Remembers keys) = false
mends (Registers prefixes) = true
mends Forgets = true

-- CLIENT TRACKING ON registers the prefixes in force, which are none without BCAST
abbrev pub tracking_memory : TrackOptions → Tracking → Memory
tracking_memory o t = if o.on then Registers (prefixes_of (tracked o t)) else Forgets

-- where tracking is on and the mode says so, a read is remembered
abbrev pub memory_of : Command → ModeState → Memory
memory_of (ClientTracking o) m = tracking_memory o m.tracking
memory_of Reset m = Forgets
memory_of command m = Remembers (if remembers_read m then read command else [])

-- what a command makes of its connection
pub record OwnEffect : Type 0 where
  pub mode : ModeState
  pub memory : Memory

abbrev pub unless_refused : Option ModeFault → Command → ModeState → OwnEffect
unless_refused None command m =
    record { mode = ended command (changed command m); memory = memory_of command m }
unless_refused (Some fault) command m =
    record { mode = after_refusal fault m; memory = Remembers [] }

-- words that are refused end what CLIENT CACHING said, and do no more
abbrev pub refused_effect : ModeState → OwnEffect
refused_effect m = record { mode = spent_mode m; memory = Remembers [] }

-- of a command that the mode allows
abbrev pub own_effect : Result Command WordFault → Runner → OwnEffect
own_effect (Ok command) by =
    unless_refused (fault_at command by.target_exists by.mode) command by.mode
own_effect (Err fault) by = refused_effect by.mode

-- the mode does not allow the command that words read as (the page of SUBSCRIBE)
abbrev pub is_barred : ModeState → Result Command WordFault → Bool
is_barred m (Ok command) = not (allows m command)
is_barred m (Err fault) = false

-- whether its connection quits by a command, or all end by it
pub data Ending : Type 0 where
  Stays : Ending
  Quits : Ending
  Stops : Ending

abbrev pub ending_of : Result Command WordFault → Ending
ending_of (Ok command.Quit) = Quits
ending_of (Ok (command.Shutdown mode)) = Stops
ending_of _ = Stays

abbrev pub is_quitting : Ending → Bool
is_quitting Quits = true
is_quitting _ = false

abbrev pub is_stopping : Ending → Bool
is_stopping Stops = true
is_stopping _ = false
