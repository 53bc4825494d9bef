use Rattle.std.proofs.Common.{subst, sym}
use Rattle.server_book.specs.Connections.{ConnectionsState, IsId}
use Rattle.server_book.proofs.Sendings.{settled_there}
use Rattle.server_book.proofs.stores.Stores.finish.Goals as goal

pub end_all-requires-clause-by : goal.end_all-requires-clause-by
end_all-requires-clause-by c = λ q.
    subst (λ (s : ConnectionsState). IsId s.items c.args.ends.by)
    (sym c.settle-signalled.ensures.connections)
    (settled_there c.args.id c.args.ends.by c.args.deed c.args.self.now.connections
    c.requires.open.0 c.requires.by)
