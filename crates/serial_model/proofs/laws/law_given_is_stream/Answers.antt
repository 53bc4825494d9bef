use Rattle.serial_model.proofs.laws.law_given_is_stream.Goals as goal
use Rattle.serial_model.proofs.Turning.{given_is_stream}

pub returns : goal.returns
returns c = given_is_stream
