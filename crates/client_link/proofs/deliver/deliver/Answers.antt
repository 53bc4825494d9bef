use Rattle.std.proofs.Common.{sym, subst, arith}
use Rattle.resp_value.specs.Lists.{IsPrefix}
use Rattle.edge_links.proofs.Bytes.{keeps_same, keeps_trans}
use Rattle.client_link.specs.Pumps.{DeliversPart}
use Rattle.client_link.proofs.Delivering.{delivering_none, delivering_more, delivers_failed}
use Rattle.client_link.proofs.Delivering.{delivers_rests, delivers_refused, takes_at}
use Rattle.client_link.proofs.deliver.deliver.Goals as goal

pub loop-init : goal.loop-init
loop-init g c = grind (arith, delivering_none, keeps_same)

pub returns-in-Err-write_all-clause-err : goal.returns-in-Err-write_all-clause-err
returns-in-Err-write_all-clause-err g c =
    let gives = takes_at c.args.wire _ _ c.loop.seat c.take_out.new.seat c.in-Ok-Some.ensures.ok
    c.in-Ok-Some.field-0-is in
    let w = c.in-Err-write_all.ensures.bytes in
    delivers_failed c.args.wire (g.L.Link.contents c.args.link.now)
    (g.L.Link.contents c.loop.link) c.args.seat.now c.loop.seat c.loop.invariant.2
    c.in-Ok-Some.bytes c.take_out.new.seat gives (g.L.Link.contents c.write_all.new.link) w.0 w.1
    (subst (IsPrefix w.0) c.as_slice.ensures w.2)

pub loop-preserved : goal.loop-preserved
loop-preserved g c = grind (arith, takes_at, delivering_more, keeps_trans)

pub returns-in-Ok-None-clause-ok : goal.returns-in-Ok-None-clause-ok
returns-in-Ok-None-clause-ok g c =
    delivers_rests c.args.wire (g.L.Link.contents c.args.link.now)
    (g.L.Link.contents c.loop.link) c.args.seat.now c.loop.seat c.loop.invariant.2
    c.take_out.new.seat
    (grind (arith, takes_at))

pub returns-in-Err-clause-err : goal.returns-in-Err-clause-err
returns-in-Err-clause-err g c =
    subst (λ e. DeliversPart c.args.wire e (g.L.Link.contents c.args.link.now)
    (g.L.Link.contents c.loop.link) c.args.seat.now c.take_out.new.seat) (sym c.end_by.ensures)
    (delivers_refused c.args.wire (g.L.Link.contents c.args.link.now)
    (g.L.Link.contents c.loop.link) c.args.seat.now c.loop.seat c.loop.invariant.2
    c.in-Err.refusal c.take_out.new.seat c.in-Err.ensures.err)
