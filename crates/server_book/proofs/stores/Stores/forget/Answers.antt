use Rattle.std.proofs.Common.{arith}
use Rattle.server_book.proofs.Remembered.{same_table}
use Rattle.server_book.proofs.stores.Stores.forget.Goals as goal

pub returns-clause-table : goal.returns-clause-table
returns-clause-table c = grind (arith, same_table)
