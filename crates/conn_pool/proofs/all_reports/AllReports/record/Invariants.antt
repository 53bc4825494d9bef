use Rattle.std.proofs.Common.{[], ◌∷◌, ◌++◌}
use Rattle.conn_pool.proofs.all_reports.AllReports.record.Given as goal

abbrev pub ghosts-picked : goal.ghosts-picked
ghosts-picked a = record { picked = a.x.now ++ a.y.now ∷ [] }
