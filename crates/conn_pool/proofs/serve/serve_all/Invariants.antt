use Rattle.std.specs.Prelude.{◌*◌}
use Rattle.conn_pool.specs.Dispatcher.{still}
use Rattle.conn_pool.specs.declared.crew.TheConstants.{PARTS}
use Rattle.conn_pool.proofs.serve.serve_all.Given as goal

abbrev pub ghosts-serve_named-L-Ledger : goal.ghosts-serve_named-L-Ledger
ghosts-serve_named-L-Ledger g a = record { name = a.links.name; parts = a.workers * PARTS }

abbrev pub ghosts-serve_named-E-Ledger : goal.ghosts-serve_named-E-Ledger
ghosts-serve_named-E-Ledger g a = record { name = a.gone.name; parts = a.workers * PARTS }

abbrev pub ghosts-serve_named-L-Opening : goal.ghosts-serve_named-L-Opening
ghosts-serve_named-L-Opening g a =
    record {
      lock = a.opened.lock;
      setup = a.opened.seat.setup;
      before = g.A.Acceptor.counts a.acceptor;
      left = still (g.A.Acceptor.left a.acceptor);
      limit = a.connections;
    }
