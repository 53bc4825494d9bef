use Rattle.std.proofs.lemmas.Bool.{cases_lt}
use Rattle.std.proofs.lemmas.List.{get_or_past}
use Rattle.std.proofs.Common.{map}
use Rattle.serial_model.proofs.Fresh.{sent_fresh}
use Rattle.server_links.proofs.server.Server.sent_entry.Goals as goal
use Rattle.std.proofs.Common.{arith}

pub returns : goal.returns
returns c = grind (arith, cases_lt, get_or_past, map, sent_fresh)
