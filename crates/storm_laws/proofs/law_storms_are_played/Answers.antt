use Rattle.storm_laws.proofs.law_storms_are_played.Goals as goal
use Rattle.storm_laws.proofs.Storms.{storm_is_played}

pub returns : goal.returns
returns c = storm_is_played c.law_one_history.ensures
