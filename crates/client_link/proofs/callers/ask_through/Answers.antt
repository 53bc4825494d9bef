use Rattle.std.proofs.Common.{arith}
use Rattle.client_link.proofs.Calling.{fetches_hit, fetches_read}
use Rattle.client_link.proofs.callers.ask_through.Goals as goal

pub returns-in-Ok-Hit-clause-ok : goal.returns-in-Ok-Hit-clause-ok
returns-in-Ok-Hit-clause-ok g c = grind (arith, fetches_hit)

pub returns-in-Ok-clause-ok : goal.returns-in-Ok-clause-ok
returns-in-Ok-clause-ok g c =
    let q = c.args.query.now in
    let old = c.args.seat.now in
    let k = c.ask_ready.new.seat in
    fetches_read q c.in-Ok.value c.in-Ok-Sent.number old k c.await_reply.new.seat
    (grind arith) c.in-Ok.ensures.ok
