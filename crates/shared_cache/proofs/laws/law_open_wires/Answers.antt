use Rattle.shared_cache.proofs.FetchLaws.{open_wires}
use Rattle.shared_cache.proofs.laws.law_open_wires.Goals as goal

pub returns : goal.returns
returns c = open_wires
