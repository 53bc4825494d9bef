use Rattle.std.proofs.Common.{sym, subst}
use Rattle.conn_worker.specs.Complete.{EndShows}
use Rattle.conn_worker.specs.Sessions.{Service}
use Rattle.conn_worker.specs.Visits.{EndCounts, Visits}
use Rattle.conn_worker.proofs.Sessions.{ends_admitted, ends_complete, ends_counts, ends_visit}
use Rattle.conn_worker.proofs.session.Session.finish.Goals as goal

pub leave-ended-requires-clause-admitted : goal.leave-ended-requires-clause-admitted
leave-ended-requires-clause-admitted g c =
    ends_admitted _ _ _ _ _ _ c.in-Some.cause c.in-Some.is c.self.invariant.3

pub returns-clause-visit : goal.returns-clause-visit
returns-clause-visit g c =
    subst (λ (v : Service). Visits v.clock (record {
      id = c.self.inside.connection.id;
      requests = c.self.inside.connection.requests;
      ended = c.leave-ended.result;
    }) v.start.left (g.K.Link.left c.self.inside.link) v.start.contents
    (g.K.Link.contents c.self.inside.link) v.entered c.leave-ended.new.seat) c.self.view_is
    (ends_visit _ _ _ _ _ _ c.in-Some.cause c.in-Some.is c.self.invariant.3 c.leave-ended.result
    c.leave-ended.new.seat c.leave-ended.ensures)

pub returns-clause-counts : goal.returns-clause-counts
returns-clause-counts g c =
    subst (λ (v : Service). EndCounts c.leave-ended.result v.start.counts
    (g.K.Link.counts c.self.inside.link)) c.self.view_is
    (ends_counts _ _ _ _ _ _ c.in-Some.cause c.in-Some.is c.self.invariant.3
    c.leave-ended.result c.leave-ended.new.seat c.leave-ended.ensures)

pub returns-clause-complete : goal.returns-clause-complete
returns-clause-complete g c =
    subst (λ (v : Service). EndShows c.leave-ended.result (record {
      id = c.self.inside.connection.id;
      requests = c.self.inside.connection.requests;
      ended = c.leave-ended.result;
    }) v.start.left (g.K.Link.left c.self.inside.link) v.start.counts
    (g.K.Link.counts c.self.inside.link) c.leave-ended.new.seat) c.self.view_is
    (ends_complete _ _ _ _ _ _ c.in-Some.cause c.in-Some.is c.self.invariant.3
    c.leave-ended.result c.leave-ended.new.seat c.leave-ended.ensures)
