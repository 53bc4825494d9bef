use Rattle.server_links.proofs.Noting.{whole_words}
use Rattle.server_links.proofs.server.Server.run_words.Goals as goal
use Rattle.std.proofs.Common.{arith}

pub returns : goal.returns
returns c = grind (arith, whole_words)
