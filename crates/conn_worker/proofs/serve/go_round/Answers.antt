use Rattle.std.proofs.Common.{sym, subst, ◌∙◌, arith}
use Rattle.conn_worker.specs.Visits.{standing}
use Rattle.conn_worker.specs.Serving.{Closing}
use Rattle.conn_worker.proofs.Serving.{hears_stops}
use Rattle.conn_worker.proofs.Hearing.{idle_here, idle_off, idle_on, piece_off, piece_on}
use Rattle.conn_worker.proofs.Hearing.{piece_over, piece_quits}
use Rattle.conn_worker.proofs.serve.go_round.Goals as goal

pub returns-in-Err-clause-err : goal.returns-in-Err-clause-err
returns-in-Err-clause-err g c id start s =
    let long = c.requires.buffer in
    hears_stops _ _ _ _ _ s _ c.in-Err.ended _ _ (omega (arith, long)) c.in-Err.ensures.err
    c.in-Err.ensures.written c.in-Err.ensures.counts

pub deliver-requires-clause-admitted : goal.deliver-requires-clause-admitted
deliver-requires-clause-admitted g c =
    let long = c.requires.buffer in
    (idle_here _ _ _ _ _ c.requires.served.serving _ _ _ _ (omega (arith, long))
    c.in-Ok.ensures.ok c.in-Ok.ensures.written (sym c.read.ensures ∙ c.in-None.is)).2

pub returns-in-Err-deliver-clause-err : goal.returns-in-Err-deliver-clause-err
returns-in-Err-deliver-clause-err g c id start s =
    let long = c.requires.buffer in
    idle_off _ _ _ _ _ s _ _ _ _ (omega (arith, long)) c.in-Ok.ensures.ok
    c.in-Ok.ensures.written (sym c.read.ensures ∙ c.in-None.is)
    (standing (g.L.Link.left c.deliver.new.link) (g.L.Link.contents c.deliver.new.link)
    (g.L.Link.counts c.deliver.new.link) c.deliver.new.seat)
    c.in-Err-deliver.ensures.unread c.in-Err-deliver.ended c.in-Err-deliver.ensures.err
    c.in-Err-deliver.ensures.counts

pub returns-in-Ok-deliver-clause-ok : goal.returns-in-Ok-deliver-clause-ok
returns-in-Ok-deliver-clause-ok g c id start s =
    let long = c.requires.buffer in
    idle_on _ _ _ _ _ s _ _ _ _ (omega (arith, long)) c.in-Ok.ensures.ok
    c.in-Ok.ensures.written (sym c.read.ensures ∙ c.in-None.is) _
    c.in-Ok-deliver.ensures.unread c.in-Ok-deliver.ensures.ok c.in-Ok-deliver.ensures.counts

pub run_parts-requires-clause-quits : goal.run_parts-requires-clause-quits
run_parts-requires-clause-quits g c =
    let long = c.requires.buffer in
    piece_quits _ _ _ _ _ c.requires.served.serving _ _ _ _ (omega (arith, long))
    c.in-Ok.ensures.ok c.in-Ok.ensures.written _ (sym c.read.ensures ∙ c.in-Some.is)

pub returns-in-Err-run_parts-clause-err : goal.returns-in-Err-run_parts-clause-err
returns-in-Err-run_parts-clause-err g c id start s =
    let long = c.requires.buffer in
    piece_off _ _ _ _ _ s _ _ _ _ (omega (arith, long)) c.in-Ok.ensures.ok
    c.in-Ok.ensures.written _ (sym c.read.ensures ∙ c.in-Some.is)
    (standing (g.L.Link.left c.run_parts.new.link) (g.L.Link.contents c.run_parts.new.link)
    (g.L.Link.counts c.run_parts.new.link) c.run_parts.new.seat)
    c.in-Err-run_parts.ensures.unread c.in-Err-run_parts.ended c.run_parts.new.self.requests
    c.in-Err-run_parts.ensures.err c.in-Err-run_parts.ensures.counts

pub returns-in-None-stop-clause-ok : goal.returns-in-None-stop-clause-ok
returns-in-None-stop-clause-ok g c id start s =
    let long = c.requires.buffer in
    let run = c.in-Ok-run_parts.ensures in
    piece_on _ _ _ _ _ s _ _ _ _ (omega (arith, long)) c.in-Ok.ensures.ok
    c.in-Ok.ensures.written _ (sym c.read.ensures ∙ c.in-Some.is) _ run.unread run.ok
    run.counts c.run_parts.new.self c.in-None-stop.is run.same.1 run.same.0 run.counted.0
    run.counted.1

pub returns-in-Some-stop-clause-err : goal.returns-in-Some-stop-clause-err
returns-in-Some-stop-clause-err g c id start s =
    let long = c.requires.buffer in
    let run = c.in-Ok-run_parts.ensures in
    subst (λ e. Closing (g.C.Clock.moment c.args.clock.now) e id c.run_parts.new.self.requests
    start
    (standing (g.L.Link.left c.args.link.now) (g.L.Link.contents c.args.link.now)
    (g.L.Link.counts c.args.link.now) c.args.seat.now)
    (standing (g.L.Link.left c.run_parts.new.link) (g.L.Link.contents c.run_parts.new.link)
    (g.L.Link.counts c.run_parts.new.link) c.run_parts.new.seat)) (sym c.ended.ensures)
    (piece_over _ _ _ _ _ s _ _ _ _ (omega (arith, long)) c.in-Ok.ensures.ok
    c.in-Ok.ensures.written _ (sym c.read.ensures ∙ c.in-Some.is)
    (standing (g.L.Link.left c.run_parts.new.link) (g.L.Link.contents c.run_parts.new.link)
    (g.L.Link.counts c.run_parts.new.link) c.run_parts.new.seat) run.unread run.ok run.counts
    c.in-Some-stop.stop c.run_parts.new.self.requests c.in-Some-stop.is run.counted.0)
