use Rattle.std.proofs.Common.{arith}
use Rattle.serial_model.proofs.DueKeys.{due_apart}
use Rattle.server_book.proofs.Plans.{due_is}
use Rattle.server_book.proofs.stores.Stores.is_broken_then.Goals as goal

pub is_broken_by-requires-clause-apart : goal.is_broken_by-requires-clause-apart
is_broken_by-requires-clause-apart c = grind (arith, due_is, due_apart)

pub returns-clause-broken : goal.returns-clause-broken
returns-clause-broken c = grind (arith, due_is)
