use Rattle.std.proofs.Common.{◌≡◌, ◌<◌, ℕ, false, get_or}
use Rattle.track_table.specs.Holdings.{KeepsOthers, has}
use Rattle.track_table.proofs.holdings.Holdings.remove_all.Given as goal

abbrev pub invariant-loop-place : goal.invariant-loop-place
invariant-loop-place l = record {
  kept : KeepsOthers l.age l.initial.self.ages.entries l.self.ages.entries;
  gone : (n : ℕ) → n < l.place → has (get_or l.holders n 0) l.age l.self.ages.entries ≡ false;
}
