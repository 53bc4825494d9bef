use Rattle.shared_cache.proofs.SideFirstLaw.{track_names_id}
use Rattle.shared_cache.proofs.laws.law_track_names_id.Goals as goal

pub returns : goal.returns
returns c = track_names_id
