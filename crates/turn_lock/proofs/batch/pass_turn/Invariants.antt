use Rattle.std.specs.Prelude.{Some}
use Rattle.turn_lock.proofs.batch.pass_turn.Given as goal

abbrev pub ghosts-serve_next : goal.ghosts-serve_next
ghosts-serve_next g a = record { item = Some a.reply.now }
