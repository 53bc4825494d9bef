use Rattle.std.proofs.Common.{arith}
use Rattle.std.proofs.lemmas.List.{length-map}
use Rattle.resp_value.proofs.SpellingSteps.{count_of}
use Rattle.resp_value.proofs.put.number_of_values.Goals as goal

pub returns : goal.returns
returns c = grind (arith, length-map, count_of)
