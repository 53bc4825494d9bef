use Rattle.conn_pool.proofs.all_reports.AllReports.of.Given as goal

abbrev pub ghosts-picked : goal.ghosts-picked
ghosts-picked a = record { picked = a.x.now.items }
