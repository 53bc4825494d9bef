use Rattle.conn_worker.proofs.Sessions.{session_begins}
use Rattle.conn_worker.proofs.session.Session.begin.Goals as goal

pub invariant_of-result : goal.invariant_of-result
invariant_of-result g c =
    session_begins g.K.Link.left g.K.Link.contents g.K.Link.counts _ _ _ _ _ c.in-Ok.id _ _ _ _ _ _
    c.record-2.ensures c.record-3.ensures c.record.ensures c.new.ensures c.in-Ok.ensures.ok
