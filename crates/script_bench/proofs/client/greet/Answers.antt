use Rattle.script_bench.proofs.Filling.{taken, greets}
use Rattle.script_bench.proofs.client.greet.Goals as goal

pub returns-in-Ok-got : goal.returns-in-Ok-got
returns-in-Ok-got g c =
    greets _ _ _ _ _ _ c.new.ensures c.in_ok-accepted.ensures
    (taken _ _ _ _ c.in-Ok-Some.field-0-is c.in-Ok-Some.ensures.ok) c.in-Ok.ensures.ok
    c.in-Ok-got.ensures.ok
