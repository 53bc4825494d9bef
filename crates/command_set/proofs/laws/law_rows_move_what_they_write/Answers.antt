use Rattle.command_set.proofs.Moves.{row_moves}
use Rattle.command_set.proofs.laws.law_rows_move_what_they_write.Goals as goal

pub returns : goal.returns
returns c = row_moves
