use Rattle.std.proofs.Common.{◌≡◌, ◌++◌, drop, option_map}
use Rattle.serial_model.specs.Tracking.{told_to}
use Rattle.past_effects.specs.Seen.{unpassed}
use Rattle.past_effects.specs.Sendings.{told_sent}
use Rattle.past_effects.proofs.sendings.Sendings.tell.Given as goal

abbrev pub invariant-loop-place : goal.invariant-loop-place
invariant-loop-place l =
    let keys = option_map (λ w. w.now) l.keys in
    l.self ++ told_sent l.connections (unpassed l.passed (told_to keys (drop l.place l.ids)))
    ≡ l.initial.self ++ told_sent l.connections (unpassed l.passed (told_to keys l.ids))
