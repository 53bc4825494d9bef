use Rattle.std.proofs.Common.{arith, sym, ap, subst, length, ◌∙◌}
use Rattle.std.specs.Io.KnownBytes.{Appends}
use Rattle.resp_value.specs.Lists.{IsPrefix}
use Rattle.shared_book.specs.Turns.{most}
use Rattle.conn_worker.specs.Visits.{DeliversPart}
use Rattle.edge_links.proofs.Bytes.{keeps_same, keeps_trans}
use Rattle.conn_worker.proofs.Delivering.{delivering_none, delivering_more, delivers_short}
use Rattle.conn_worker.proofs.Delivering.{delivers_failed, delivers_rests, delivers_refused}
use Rattle.conn_worker.proofs.Delivering.{takes_at}
use Rattle.conn_worker.proofs.deliver.deliver.Goals as goal

pub loop-init : goal.loop-init
loop-init g c = grind (arith, delivering_none, keeps_same)

pub returns-in-Err-write_all-clause-err : goal.returns-in-Err-write_all-clause-err
returns-in-Err-write_all-clause-err g c =
    let gives = takes_at c.args.id _ _ c.loop.seat c.take.new.seat c.in-Ok-Some.ensures.ok
    c.in-Ok-Some.field-0-is in
    let w = c.in-Err-write_all.ensures.bytes in
    delivers_failed c.args.id (g.L.Link.contents c.args.link.now)
    (g.L.Link.contents c.loop.link) c.args.seat.now c.loop.seat c.loop.invariant.2 most
    c.in-Ok-Some.bytes c.take.new.seat gives.0 (g.L.Link.contents c.write_all.new.link) w.0 w.1
    (subst (IsPrefix w.0) c.as_slice.ensures w.2)

pub returns-then-as_slice-lt-MOST-clause-ok : goal.returns-then-as_slice-lt-MOST-clause-ok
returns-then-as_slice-lt-MOST-clause-ok g c =
    let gives = takes_at c.args.id _ _ c.loop.seat c.take.new.seat c.in-Ok-Some.ensures.ok
    c.in-Ok-Some.field-0-is in
    let long = ap length c.as_slice-in-Ok-Some.ensures in
    delivers_short c.args.id (g.L.Link.contents c.args.link.now)
    (g.L.Link.contents c.loop.link) c.args.seat.now c.loop.seat c.loop.invariant.2 most
    c.in-Ok-Some.bytes c.take.new.seat gives.0 (g.L.Link.contents c.write_all.new.link)
    (subst (Appends _ _) c.as_slice.ensures c.in-Ok.ensures.bytes)
    (omega (arith, long, c.if-as_slice-lt-MOST.true))

pub loop-preserved : goal.loop-preserved
loop-preserved g c =
    let gives = takes_at c.args.id _ _ c.loop.seat c.take.new.seat c.in-Ok-Some.ensures.ok
    c.in-Ok-Some.field-0-is in (
      tt,
      tt,
      delivering_more c.args.id (g.L.Link.contents c.args.link.now)
          (g.L.Link.contents c.loop.link) c.args.seat.now c.loop.seat c.loop.invariant.2 most
          c.in-Ok-Some.bytes c.take.new.seat gives.0 (g.L.Link.contents c.write_all.new.link)
          (subst (Appends _ _) c.as_slice.ensures c.in-Ok.ensures.bytes),
      keeps_trans _ _ _ c.loop.invariant.3 c.write_all.ensures.unread,
      c.in-Ok.ensures.counts ∙ c.loop.invariant.4,
    )

pub returns-in-Ok-None-clause-ok : goal.returns-in-Ok-None-clause-ok
returns-in-Ok-None-clause-ok g c =
    delivers_rests c.args.id (g.L.Link.contents c.args.link.now)
    (g.L.Link.contents c.loop.link) c.args.seat.now c.loop.seat c.loop.invariant.2
    c.take.new.seat
    (grind (arith, takes_at))

pub returns-in-Err-clause-err : goal.returns-in-Err-clause-err
returns-in-Err-clause-err g c =
    subst (λ e. DeliversPart e c.args.id (g.L.Link.contents c.args.link.now)
    (g.L.Link.contents c.loop.link) c.args.seat.now c.take.new.seat) (sym c.ended_by.ensures)
    (delivers_refused c.args.id (g.L.Link.contents c.args.link.now)
    (g.L.Link.contents c.loop.link) c.args.seat.now c.loop.seat c.loop.invariant.2
    c.in-Err.refusal c.take.new.seat c.in-Err.ensures.err)
