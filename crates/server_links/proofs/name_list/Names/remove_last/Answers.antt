use Rattle.std.proofs.lemmas.List.{length-map, map-append}
use Rattle.std.proofs.Common.{length-append, arith}
use Rattle.server_links.proofs.Noting.{last_same}
use Rattle.server_links.proofs.name_list.Names.remove_last.Goals as goal

pub returns : goal.returns
returns c before name is = grind (arith, length-map, length-append, last_same, map-append)
