use Rattle.std.proofs.Common.{◌≡◌, ◌+◌, take}
use Rattle.std.specs.List.{count_by}
use Rattle.storm_run.specs.Storming.{is_hit, is_miss}
use Rattle.storm_run.proofs.tally.Tally.count.Given as goal

abbrev pub invariant-loop-line : goal.invariant-loop-line
invariant-loop-line l =
    (l.self.hits ≡ l.initial.self.hits + count_by is_hit (take l.line-index l.line-items))
    × (l.self.misses
    ≡ l.initial.self.misses + count_by is_miss (take l.line-index l.line-items))
