use Rattle.std.proofs.Common.{◌≡◌, ◌++◌, drop}
use Rattle.std.specs.List.{flat_map}
use Rattle.past_effects.specs.Seen.{unpassed}
use Rattle.past_effects.specs.Sendings.{told_at, told_sent}
use Rattle.past_effects.proofs.sendings.Sendings.tell_prefixes.Given as goal

abbrev pub invariant-loop-place : goal.invariant-loop-place
invariant-loop-place l =
    let told = told_at l.keys l.prefixes in
    l.self
    ++ told_sent l.connections
    (unpassed l.passed (flat_map told (drop l.place-index l.place-items)))
    ≡ l.initial.self
    ++ told_sent l.connections (unpassed l.passed (flat_map told l.place-items))
