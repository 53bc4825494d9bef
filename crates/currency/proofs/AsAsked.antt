-- What a client asks of the modes of its connections.
use Rattle.std.proofs.Common.{◌≡◌, ℕ, List, Option, Some, None, true}
use Rattle.resp_value.specs.declared.value.Proto.{Proto}
use Rattle.resp_value.specs.declared.value.Proto.TheVariants.{Two, Three}
use Rattle.track_modes.specs.declared.tracking.Tracking.{Tracking}
use Rattle.track_modes.specs.declared.tracking.Tracking.TheVariants.{On}
use Rattle.track_modes.specs.ModeState.{ModeState}
use Rattle.serial_model.specs.declared.history.Limits.{Limits}
use Rattle.serial_model.specs.declared.history.Entry.{Entry}
use Rattle.serial_model.specs.History.{is_admitted, mode}
use Rattle.shared_cache.specs.declared.log.ClientMode.{ClientMode}
use Rattle.shared_cache.specs.declared.log.Shape.{Shape}
use Rattle.shared_cache.specs.declared.log.Shape.TheVariants.{Single, Pair}
use Rattle.shared_cache.specs.declared.log.Wire.TheVariants.{Main, Side}
use Rattle.currency.specs.Links.{Client}
use Rattle.currency.proofs.TrackingCommand.{asked_mode}

-- of two links, what is told goes to the connection of the other
abbrev pub target_by : Shape → ℕ → Option ℕ
target_by Single side = None
target_by Pair side = Some side

-- the tracking of a connection that accepted the client's command
abbrev pub asked_for : ClientMode → Option ℕ → Tracking
asked_for m target =
    On (record { mode = asked_mode m.caching; redirect = target; noloop = m.noloop })

-- a connection is sent what a client of this protocol awaits on the link that it listens on: pushes
-- on the third, messages on the second where it is subscribed
abbrev pub Listens : Proto → ModeState → Type 0
Listens Three m = m.proto ≡ Three
Listens Two m = m.subscribed ≡ true

abbrev pub SideListens : Shape → Proto → Limits → ℕ → List Entry → Type 0
SideListens Single proto l side up = Unit {0}
SideListens Pair proto l side up =
    (is_admitted up side ≡ true) × Listens proto (mode l side up)

pub record AsAsked (l : Limits) (x : Client) (up : List Entry) : Type 0 where
  pub proto_is : (mode l (x.id Main) up).proto ≡ x.setup.mode.proto
  pub tracking_is : (mode l (x.id Main) up).tracking
      ≡ asked_for x.setup.mode (target_by x.setup.mode.shape (x.id Side))
  pub side : SideListens x.setup.mode.shape x.setup.mode.proto l (x.id Side) up
