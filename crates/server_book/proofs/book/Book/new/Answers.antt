use Rattle.std.proofs.Common.{ap}
use Rattle.server_book.specs.Connections.{ConnectionsState}
use Rattle.server_book.proofs.BookTurns.{begins}
use Rattle.server_book.proofs.book.Book.new.Goals as goal

pub invariant_of-result : goal.invariant_of-result
invariant_of-result c =
    begins c.args.limits c.new.result c.new-2.result c.new.ensures.0 c.new.ensures.1
    c.new-2.ensures.space c.new-2.ensures.table c.new-2.ensures.prefixes
    (ap (λ (s : ConnectionsState). s.items) c.new-2.ensures.connections)
    (ap (λ (s : ConnectionsState). s.lost) c.new-2.ensures.connections)
