use Rattle.turn_lock.proofs.Turning.{within_first}
use Rattle.shared_book.proofs.logged.open_told.Goals as goal

pub returns-in-Ok-clause-within : goal.returns-in-Ok-clause-within
returns-in-Ok-clause-within c = within_first _ _ _ c.in-Ok.ensures
