use Rattle.conn_pool.proofs.Complete.{completes_all}
use Rattle.conn_pool.proofs.serve.serve_all.Goals as goal

pub returns-clause-complete : goal.returns-clause-complete
returns-clause-complete g c =
    completes_all g.A.Acceptor.counts c.args.limits c.args.connections c.args.acceptor
    c.serve_named.result c.serve_named.ensures.failed c.serve_named.ensures.over
    c.serve_named.ensures.history
