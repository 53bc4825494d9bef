use Rattle.conn_pool.proofs.Sorting.{by_id}
use Rattle.conn_pool.proofs.all_reports.AllReports.in_order.Given as goal

abbrev pub ghosts-picked : goal.ghosts-picked
ghosts-picked a = record { picked = (by_id a.x.now).0 }
