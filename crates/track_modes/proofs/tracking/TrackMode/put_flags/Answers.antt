use Rattle.track_modes.proofs.tracking.TrackMode.put_flags.Goals as goal

pub returns-in-OptIn : goal.returns-in-OptIn
returns-in-OptIn c = rw c.in-OptIn.is c.put_opt.ensures
