use Rattle.std.proofs.Common.{subst, sym, IfSome}
use Rattle.serve_run.specs.Runs.{ServesAll}
use Rattle.serve_run.proofs.run.serve.Goals as goal

pub returns-in-Ok-serve_all-clause-served : goal.returns-in-Ok-serve_all-clause-served
returns-in-Ok-serve_all-clause-served g c =
    let e = c.in-Ok-serve_all.ensures in
    subst (λ served. IfSome served (λ s. ServesAll {A = g.row.N-Acceptor.Denot}
    {L = g.row.N-Link.Denot} c.args.limits c.args.connections g.N.Acceptor.Acceptor.counts
    g.N.Acceptor.Acceptor.left s)) (sym c.report.ensures.served) (record {
      acceptor = c.in-Ok.acceptor;
      fresh = c.in-Ok.ensures.1;
      given = e.given;
      failed = e.failed;
      sound = e.sound;
      over = e.over;
      within = e.within;
      history = e.history;
    })
