use Rattle.std.proofs.Common.{arith}
use Rattle.std.proofs.lemmas.List.{length-map}
use Rattle.resp_value.proofs.SpellingSteps.{row_count_of}
use Rattle.resp_value.proofs.put.number_of_pairs.Goals as goal

pub returns-clause-count : goal.returns-clause-count
returns-clause-count c = grind (arith, length-map, row_count_of)
