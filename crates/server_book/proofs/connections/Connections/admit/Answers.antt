use Rattle.serial_model.proofs.Each.{all_in}
use Rattle.server_book.proofs.Lives.{live_more}
use Rattle.server_book.proofs.Sendings.{id_longer}
use Rattle.std.proofs.Common.{arith, length-append}
use Rattle.server_book.proofs.connections.Connections.admit.Goals as goal

pub invariant_of-self-2 : goal.invariant_of-self-2
invariant_of-self-2 c = grind (arith, length-append, all_in, id_longer, live_more)
