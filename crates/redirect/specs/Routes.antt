-- Where an invalidation for a connection goes, by its mode (the page of CLIENT TRACKING, REDIRECT).
use Rattle.std.specs.Prelude.{ℕ, Bool, false, not, if◌then◌else◌, Option, Some, None, is_some}
use Rattle.std.specs.Prelude.{◌&&◌}
use Rattle.resp_value.specs.declared.value.Proto.{Proto}
use Rattle.resp_value.specs.declared.value.Proto.TheVariants.{Two, Three}
use Rattle.track_modes.specs.declared.peer.Peer.{Peer}
use Rattle.track_modes.specs.declared.tracking.Tracking.{Tracking}
use Rattle.track_modes.specs.declared.tracking.Tracking.TheVariants.{Off, On}
use Rattle.track_modes.specs.ModeState.{ModeState}
use Rattle.redirect.specs.declared.routes.Route.{Route}
use Rattle.redirect.specs.declared.routes.Route.TheVariants.{Push, Message, BrokenNotice, Nowhere}

-- to the connection itself: RESP2 has no pushes
abbrev pub direct_route : ℕ → Proto → Route
direct_route own Three = Push own
direct_route own Two = Nowhere

-- to another connection, by its protocol and whether it is subscribed
abbrev pub subscriber_route : ℕ → Proto → Bool → Route
subscriber_route to Three subscribed = Push to
subscriber_route to Two subscribed = if subscribed then Message to else Nowhere

abbrev pub peer_route : ℕ → Peer → Route
peer_route to peer = subscriber_route to peer.proto peer.subscribed

-- the other connection has ended
abbrev pub lost_route : ℕ → Proto → Route
lost_route own Three = BrokenNotice own
lost_route own Two = Nowhere

abbrev pub redirected_route : Option ℕ → ℕ → Proto → Option Peer → Route
redirected_route None own proto target = direct_route own proto
redirected_route (Some to) own proto (Some peer) = peer_route to peer
redirected_route (Some to) own proto None = lost_route own proto

abbrev pub tracking_route : Tracking → ℕ → Proto → Option Peer → Route
tracking_route Off own proto target = Nowhere
tracking_route (On s) own proto target = redirected_route s.redirect own proto target

abbrev pub route_of : ℕ → Option Peer → ModeState → Route
route_of own target m = tracking_route m.tracking own m.proto target

-- messages are redirected to a connection that has ended
abbrev pub breaks : Tracking → Option Peer → Bool
breaks Off target = false
breaks (On s) target = is_some s.redirect && not (is_some target)

abbrev pub is_broken : Option Peer → ModeState → Bool
is_broken target m = breaks m.tracking target
