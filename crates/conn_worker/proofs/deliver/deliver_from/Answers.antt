use Rattle.std.proofs.Common.{arith, ap, subst, length}
use Rattle.std.specs.Prelude.{Some}
use Rattle.std.proofs.lemmas.Result.{IfErr-weaker, on_ok_weaker}
use Rattle.std.specs.Io.KnownBytes.{Appends}
use Rattle.shared_book.specs.Turns.{Place}
use Rattle.conn_worker.specs.Visits.{Begins}
use Rattle.conn_worker.proofs.Delivering.{begun_none, begun_more, begun_short, delivers_then}
use Rattle.conn_worker.proofs.Delivering.{delivers_part_then}
use Rattle.conn_worker.proofs.deliver.deliver_from.Goals as goal
use Rattle.conn_worker.proofs.deliver.deliver_from.Goals.{In-Some}
use Rattle.conn_worker.proofs.deliver.deliver_from.Given as given

pub returns-in-None-clause-ok : goal.returns-in-None-clause-ok
returns-in-None-clause-ok g c = grind (arith, begun_none)

-- what was taken are these bytes
some_taken : (g : given.Over) → (c : goal.In-Some g) → (before : Place)
    → Begins c.args.id c.args.front before c.args.seat.now
    → Begins c.args.id (Some c.in-Some.bytes) before c.args.seat.now
some_taken g c before b = grind arith

pub returns-then-as_slice-lt-MOST-clause-ok : goal.returns-then-as_slice-lt-MOST-clause-ok
returns-then-as_slice-lt-MOST-clause-ok g c = λ before b.
    let long = ap length c.as_slice-2.ensures in
    begun_short c.args.id (g.L.Link.contents c.args.link.now) before c.args.seat.now
    c.in-Some.bytes
    (some_taken g (goal.at.returns-then-as_slice-lt-MOST-clause-ok g c).In-Some before b)
    (g.L.Link.contents c.write_all.new.link)
    (subst (Appends _ _) c.as_slice.ensures c.in-Ok.ensures.bytes)
    (omega (arith, long, c.if-as_slice-lt-MOST.true))

pub returns-clause-ok : goal.returns-clause-ok
returns-clause-ok g c =
    on_ok_weaker c.deliver.result (λ d before b.
    delivers_then c.args.id (g.L.Link.contents c.args.link.now)
    (g.L.Link.contents c.write_all.new.link) (g.L.Link.contents c.deliver.new.link) before
    c.args.seat.now c.deliver.new.seat
    (grind (arith, begun_more, some_taken)) d) c.deliver.ensures.ok

pub returns-clause-err : goal.returns-clause-err
returns-clause-err g c =
    IfErr-weaker c.deliver.result _ _ (λ e d before b.
    delivers_part_then c.args.id (g.L.Link.contents c.args.link.now)
    (g.L.Link.contents c.write_all.new.link) (g.L.Link.contents c.deliver.new.link) before
    c.args.seat.now c.deliver.new.seat
    (grind (arith, begun_more, some_taken)) e d) c.deliver.ensures.err
