use Rattle.std.proofs.Common.{◌≡◌, length}
use Rattle.track_modes.specs.PrefixLists.{with_prefixes}
use Rattle.track_modes.proofs.prefixes.Prefixes.add_all.Given as goal

abbrev pub invariant-loop-rest : goal.invariant-loop-rest
invariant-loop-rest l = with_prefixes l.prefixes l.fn.self ≡ with_prefixes l.rest l.self

abbrev pub decreases-loop-rest : goal.decreases-loop-rest
decreases-loop-rest l = length l.rest
