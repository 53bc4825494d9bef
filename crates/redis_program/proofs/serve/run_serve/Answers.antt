use Rattle.std.proofs.Common.{arith, IfSome, subst}
use Rattle.serve_run.specs.Runs.{ServesAll}
use Rattle.redis_program.proofs.serve.run_serve.Goals as goal

pub returns-clause-serve : goal.returns-clause-serve
returns-clause-serve g c = record {
  end = c.serve_and_write-served.result.end;
  status = c.status_of.ensures;
  writes = c.serve_and_write-served.ensures.writes;
  serves = subst (λ l. IfSome c.serve_and_write-served.result.served (λ s. ServesAll l
      c.args.settings.connections g.N.Acceptor.Acceptor.counts g.N.Acceptor.Acceptor.left s))
      c.limits_of.ensures c.serve_and_write-served.ensures.served;
}

pub returns-clause-net : goal.returns-clause-net
returns-clause-net g c = grind arith

pub returns-clause-write : goal.returns-clause-write
returns-clause-write g c = grind arith
