-- What holds of the events of a schedule that met no fault.
use Rattle.std.specs.Prelude.{◌≡◌, ◌<◌, ℕ, List, length}
use Rattle.std.specs.declared.option.Option.TheVariants.{Some}
use Rattle.serial_model.specs.declared.history.Limits.{Limits}
use Rattle.script_text.specs.declared.event.Event.{Event}
use Rattle.world_run.specs.WorldState.{WorldState, start}
use Rattle.world_run.specs.WorldTranscript.{after, transcript}
use Rattle.world_run.specs.WorldFlows.{FlowDelivers}
use Rattle.world_run.specs.WorldHistory.{AllHitsStand, OneHistory}

-- The events met no fault, and one history serves all links. What a client holds is what the server
-- would answer, and each answer from a cache stands at its point of the history. A link that is not
-- cut would deliver all of its bytes in a flow.
pub record PlaysEvents (limits : Limits) (events : List Event) (w : WorldState) : Type 0 where
  pub played : after (start limits) events ≡ Some w
  pub one_history : OneHistory (start limits) events (transcript (start limits) events) w
  pub hits : AllHitsStand (start limits) events
  pub flows : (at : ℕ) → at < length w.links.links → FlowDelivers w at
