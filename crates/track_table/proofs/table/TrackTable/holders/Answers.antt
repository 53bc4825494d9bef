use Rattle.std.proofs.lemmas.List.{get_or_read}
use Rattle.track_table.proofs.Orders.{holders_ascend}
use Rattle.track_table.proofs.Lookups.{holders_at}
use Rattle.track_table.proofs.Parts.{holders_parts, in_at, in_none}
use Rattle.track_table.proofs.table.TrackTable.holders.Goals as goal
use Rattle.std.proofs.Common.{arith}

pub returns-in-Some : goal.returns-in-Some
returns-in-Some c = grind (arith, get_or_read, holders_at, holders_ascend, holders_parts, in_at)

pub returns-in-None : goal.returns-in-None
returns-in-None c = grind (arith, holders_parts, in_none)
