use Rattle.std.proofs.Common.{◌≡◌, ◌++◌, drop}
use Rattle.serial_model.specs.Tracking.{drop_group}
use Rattle.past_effects.specs.Sendings.{told_sent}
use Rattle.past_effects.proofs.sendings.Sendings.tell_rows.Given as goal

abbrev pub invariant-loop-place : goal.invariant-loop-place
invariant-loop-place l =
    l.self ++ told_sent l.connections (drop_group (drop l.place l.rows))
    ≡ l.initial.self ++ told_sent l.connections (drop_group l.rows)
