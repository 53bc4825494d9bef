use Rattle.client_link.proofs.Getting.{part_none}
use Rattle.client_link.proofs.hear.hear_piece.Goals as goal
use Rattle.std.proofs.Common.{arith}

pub returns-then-is_err-clause-err : goal.returns-then-is_err-clause-err
returns-then-is_err-clause-err g c = grind (arith, part_none)
