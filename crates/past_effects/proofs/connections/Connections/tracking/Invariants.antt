use Rattle.std.proofs.Common.{◌≡◌}
use Rattle.serial_model.specs.Tracking.{ids_where}
use Rattle.past_effects.specs.Seen.{tracks_at}
use Rattle.past_effects.proofs.connections.Connections.tracking.Given as goal

abbrev pub invariant-loop-place : goal.invariant-loop-place
invariant-loop-place l = l.ids.items ≡ ids_where (tracks_at l.fn.self) l.place
