use Rattle.std.proofs.Common.{rules, ◌+◌, ◌%◌, ◌^◌}
use Rattle.turn_lock.proofs.Keeps.{counts}
use Rattle.turn_lock.proofs.steps.count_in.Goals as goal

pub fetch_add-requires : goal.fetch_add-requires
fetch_add-requires g c = (
  search rules,
  search rules,
  counts g.S.Logged.setup g.S.Logged.stands g.S.Logged.step _ _ _ (λ n. (n + 1) % 2 ^ 64) _,
)
