use Rattle.std.proofs.Common.{arith}
use Rattle.shared_cache.specs.declared.log.ClientCall.TheVariants as call
use Rattle.client_link.proofs.Calling.{waited_adds, waited_refuses, waited_more}
use Rattle.client_link.proofs.callers.await_reply.Goals as goal

pub returns-in-Ok-Some-clause-ok : goal.returns-in-Ok-Some-clause-ok
returns-in-Ok-Some-clause-ok g c = grind (arith, waited_adds)

pub loop-preserved : goal.loop-preserved
loop-preserved g c = grind (arith, waited_more)

pub returns-in-Err-clause-err : goal.returns-in-Err-clause-err
returns-in-Err-clause-err g c =
    waited_refuses c.args.seat.now c.loop.seat c.poll.new.seat c.loop.invariant.2
    (call.Poll c.args.number) c.in-Err.refusal c.in-Err.ensures.err
