use Rattle.script_bench.proofs.Filling.{taken, got, handed, answers_it}
use Rattle.script_bench.proofs.client.answer.Goals as goal

pub returns : goal.returns
returns g c =
    answers_it c.args.number c.args.value _ _ _ _
    (taken _ _ _ _ c.in-Ok-Some.field-0-is c.in-Ok-Some.ensures.ok)
    (got c.args.value _ _ c.in-Ok.ensures.ok)
    (handed c.args.number _ _ _ _ c.in-Ok-Some-poll.field-0-is c.in-Ok-Some-poll.ensures.ok)
