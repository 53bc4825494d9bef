use Rattle.std.proofs.Common.{arith}
use Rattle.std.proofs.lemmas.List.{get_or_read}
use Rattle.server_links.proofs.Ended.{not_over}
use Rattle.server_links.proofs.server_links.ServerLinks.is_over.Goals as goal

pub returns-then-reads_on-clause-goes_on : goal.returns-then-reads_on-clause-goes_on
returns-then-reads_on-clause-goes_on c =
    λ same. not_over c.args.self.now c.args.at (grind (arith, get_or_read))
