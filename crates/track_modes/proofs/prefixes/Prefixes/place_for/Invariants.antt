use Rattle.track_modes.specs.PrefixLists.{AllBefore}
use Rattle.track_modes.proofs.prefixes.Prefixes.place_for.Given as goal

abbrev pub invariant-loop-place : goal.invariant-loop-place
invariant-loop-place l = AllBefore l.prefix l.self l.place
