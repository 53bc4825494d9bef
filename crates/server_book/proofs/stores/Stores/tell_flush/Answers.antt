use Rattle.std.proofs.Common.{arith}
use Rattle.server_book.proofs.Routing.{unpassed_none}
use Rattle.server_book.proofs.stores.Stores.tell_flush.Goals as goal

pub returns-clause-told : goal.returns-clause-told
returns-clause-told c = grind (arith, unpassed_none)
