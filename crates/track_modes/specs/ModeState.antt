-- A connection's mode: what its own commands so far make of it.
use Rattle.std.specs.Prelude.{ℕ, List, [], ◌∷◌, ◌++◌, Bool, true, false, not, if◌then◌else◌}
use Rattle.std.specs.Prelude.{Option, Some, None, codes}
use Rattle.resp_value.specs.declared.value.Proto.{Proto}
use Rattle.resp_value.specs.declared.value.Proto.TheVariants.{Two}
use Rattle.track_modes.specs.declared.peer.Peer.{Peer}
use Rattle.track_modes.specs.declared.tracking.TrackMode.{TrackMode}
use Rattle.track_modes.specs.declared.tracking.TrackMode.TheVariants.{Default, OptIn, OptOut, Bcast}
use Rattle.track_modes.specs.declared.tracking.Tracking.{Tracking}
use Rattle.track_modes.specs.declared.tracking.Tracking.TheVariants.{Off, On}

-- beside how it tracks, whether the command before was CLIENT CACHING, accepted
pub record ModeState : Type 0 where
  pub proto : Proto
  pub subscribed : Bool
  pub tracking : Tracking
  pub caching : Bool

-- a connection as it is admitted, and after RESET
abbrev pub new_mode : ModeState
new_mode = record { proto = Two; subscribed = false; tracking = Off; caching = false }

abbrev pub peer_of : ModeState → Peer
peer_of m = record { proto = m.proto; subscribed = m.subscribed }

abbrev pub mode_of : Tracking → Option TrackMode
mode_of Off = None
mode_of (On s) = Some s.mode

abbrev pub prefixes_in : TrackMode → List (List ℕ)
prefixes_in Default = []
prefixes_in OptIn = []
prefixes_in OptOut = []
prefixes_in (Bcast prefixes) = prefixes

abbrev pub prefixes_of : Tracking → List (List ℕ)
prefixes_of Off = []
prefixes_of (On s) = prefixes_in s.mode

-- a read is remembered always, only after CLIENT CACHING YES, not after CLIENT CACHING NO, never
abbrev pub remembers_in : Bool → TrackMode → Bool
remembers_in caching Default = true
remembers_in caching OptIn = caching
remembers_in caching OptOut = not caching
remembers_in caching (Bcast prefixes) = false

abbrev pub remembers_by : Bool → Tracking → Bool
remembers_by caching Off = false
remembers_by caching (On s) = remembers_in caching s.mode

abbrev pub remembers_read : ModeState → Bool
remembers_read m = remembers_by m.caching m.tracking

abbrev pub is_on : Tracking → Bool
is_on Off = false
is_on (On s) = true

-- it is sent no message of a key that it changes itself
abbrev pub is_noloop : Tracking → Bool
is_noloop Off = false
is_noloop (On s) = s.noloop

-- the connection that its messages are sent to in place of it
abbrev pub redirect_of : Tracking → Option ℕ
redirect_of Off = None
redirect_of (On s) = s.redirect

abbrev pub flag : Bool → List ℕ → List (List ℕ)
flag b word = if b then word ∷ [] else []

abbrev pub mode_flags : Bool → TrackMode → List (List ℕ)
mode_flags caching Default = []
mode_flags caching OptIn = codes "optin" ∷ flag caching (codes "caching-yes")
mode_flags caching OptOut = codes "optout" ∷ flag caching (codes "caching-no")
mode_flags caching (Bcast prefixes) = codes "bcast" ∷ []

abbrev pub tracking_flags : Bool → Bool → Tracking → List (List ℕ)
tracking_flags caching is_broken Off = codes "off" ∷ []
tracking_flags caching is_broken (On s) =
    codes "on" ∷ mode_flags caching s.mode
    ++ flag s.noloop (codes "noloop") ++ flag is_broken (codes "broken_redirect")

-- the flags that CLIENT TRACKINGINFO tells (its page), in order; a redirection is broken where a
-- message was due and the connection that it was to be sent to had ended
abbrev pub flags : Bool → ModeState → List (List ℕ)
flags is_broken m = tracking_flags m.caching is_broken m.tracking
