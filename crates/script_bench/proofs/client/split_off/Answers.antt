use Rattle.script_bench.proofs.Asking.{kept_within, split_within}
use Rattle.script_bench.proofs.client.split_off.Goals as goal

pub returns-clause-within : goal.returns-clause-within
returns-clause-within c = (
  kept_within c.args.seat.now c.split.new.seat _ c.split.ensures.old c.requires.within,
  split_within c.args.seat.now c.split.result _ _ c.split.ensures.new,
)
