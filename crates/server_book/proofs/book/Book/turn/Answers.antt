use Rattle.server_book.proofs.Refusals.{accepted_adds}
use Rattle.server_book.proofs.book.Book.turn.Goals as goal
use Rattle.server_book.proofs.book.Book.turn.Goals.{in-Admit, in-Run, in-Tick, in-Take}
use Rattle.std.proofs.Common.{arith}

pub returns-in-Err-clause-step : goal.returns-in-Err-clause-step
returns-in-Err-clause-step c = grind (arith, accepted_adds)
