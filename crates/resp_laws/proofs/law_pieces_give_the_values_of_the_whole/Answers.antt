use Rattle.std.proofs.Common.{refl}
use Rattle.resp_stream.specs.Stream.{begun, fed}
use Rattle.resp_stream.proofs.Parse.{values_joined}
use Rattle.resp_laws.proofs.law_pieces_give_the_values_of_the_whole.Goals as goal

pub returns : goal.returns
returns c = λ b m e. values_joined (fed begun b) m refl e
