use Rattle.shared_book.proofs.Outcomes.{plays_one}
use Rattle.shared_book.proofs.turns.play_one.Goals as goal

pub returns-in-Ok-clause-ok : goal.returns-in-Ok-clause-ok
returns-in-Ok-clause-ok g c =
    plays_one c.args.call c.in-Ok.answer c.args.seat.now c.play.new.seat c.in-Ok.ensures.ok
