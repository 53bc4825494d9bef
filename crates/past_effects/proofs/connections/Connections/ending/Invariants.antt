use Rattle.std.proofs.Common.{◌≡◌}
use Rattle.serial_model.specs.Tracking.{ids_where}
use Rattle.past_effects.specs.Ends.{ends_one}
use Rattle.past_effects.specs.Seen.{seen_at}
use Rattle.past_effects.proofs.connections.Connections.ending.Given as goal

abbrev pub invariant-loop-place : goal.invariant-loop-place
invariant-loop-place l =
    l.ids.items ≡ ids_where (λ c. ends_one l.causes l.sent c (seen_at l.fn.self c)) l.place
