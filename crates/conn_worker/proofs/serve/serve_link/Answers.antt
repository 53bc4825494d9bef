use Rattle.std.proofs.Common.{ap, inr, subst}
use Rattle.conn_worker.specs.declared.connection.Connection.{Connection}
use Rattle.conn_worker.specs.Visits.{Works}
use Rattle.conn_worker.proofs.Complete.{ends_show}
use Rattle.conn_worker.proofs.Parting.{leaves_counts, leaves_dropped}
use Rattle.conn_worker.proofs.Serving.{serves_as, works_admitted}
use Rattle.conn_worker.proofs.serve.serve_link.Goals as goal

pub leave-ended-requires-clause-admitted : goal.leave-ended-requires-clause-admitted
leave-ended-requires-clause-admitted g c =
    works_admitted _ _ c.in-Ok.id _ _ _ _ _ _ _ _ _ c.in-Ok.ensures.ok
    (ap (λ (x : Connection). x.id) c.new-connection.ensures)
    c.serve_admitted-cause.ensures.works

pub returns-clause-visit : goal.returns-clause-visit
returns-clause-visit g c =
    let same = ap (λ (x : Connection). x.id) c.new-connection.ensures in
    let w = subst (λ n. Works (g.C.Clock.moment c.args.clock.now) c.serve_admitted-cause.result n
    c.serve_admitted-cause.new.connection.requests (g.L.Link.left c.args.link.now)
    (g.L.Link.left c.serve_admitted-cause.new.link) (g.L.Link.contents c.args.link.now)
    (g.L.Link.contents c.serve_admitted-cause.new.link) c.admit.new.seat
    c.serve_admitted-cause.new.seat) same c.serve_admitted-cause.ensures.works in
    inr (record {
      first = c.admit.new.seat;
      last = c.serve_admitted-cause.new.seat;
      cause = c.serve_admitted-cause.result;
      admits = c.in-Ok.ensures.ok;
      works = w;
      leaves = c.leave-ended.ensures;
      dropped = leaves_dropped _ _ _ _ _ w.turns _ w.heard w.work w.shown c.leave-ended.ensures;
    })

pub returns-clause-counts : goal.returns-clause-counts
returns-clause-counts g c =
    leaves_counts _ _ _ _ _ _ _ c.leave-ended.ensures c.serve_admitted-cause.ensures.counts

pub returns-clause-rounds : goal.returns-clause-rounds
returns-clause-rounds g c =
    inr (record {
      first = c.admit.new.seat;
      last = c.serve_admitted-cause.new.seat;
      cause = c.serve_admitted-cause.result;
      admits = c.in-Ok.ensures.ok;
      serves = serves_as _ _ _ _ _ _ (ap (λ (x : Connection). x.id) c.new-connection.ensures)
          c.serve_admitted-cause.ensures.rounds;
      leaves = c.leave-ended.ensures;
    })

pub returns-clause-complete : goal.returns-clause-complete
returns-clause-complete g c =
    ends_show (g.C.Clock.moment c.args.clock.now) _ _ _ _ _ _ _ _ _ (returns-clause-visit g c)
    (returns-clause-counts g c)
