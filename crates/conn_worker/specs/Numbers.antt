-- The number of each end. 6 was a full history's, and is given no more.
use Rattle.std.specs.Prelude.{ℕ}
use Rattle.conn_worker.specs.declared.report.Ended.{Ended}
use Rattle.conn_worker.specs.declared.report.Ended.TheVariants as ended

abbrev pub end_number : Ended → ℕ
end_number ended.PeerEnd = 1
end_number ended.Quit = 2
end_number ended.Dropped = 3
end_number (ended.BadRequest fault) = 4
end_number ended.LinkFault = 5
end_number ended.NoMemory = 7
end_number ended.Worn = 8
end_number ended.Stopped = 9
