use Rattle.std.proofs.Common.{rules, ◌+◌, ◌-◌, ◌%◌, ◌^◌}
use Rattle.turn_lock.proofs.Keeps.{counts}
use Rattle.turn_lock.proofs.steps.count_out.Goals as goal

pub fetch_sub-requires : goal.fetch_sub-requires
fetch_sub-requires g c = (
  search rules,
  search rules,
  counts g.S.Logged.setup g.S.Logged.stands g.S.Logged.step _ _ _
      (λ n. (n + (2 ^ 64 - 1)) % 2 ^ 64) _,
)
