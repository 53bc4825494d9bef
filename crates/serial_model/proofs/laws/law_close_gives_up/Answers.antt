use Rattle.serial_model.proofs.laws.law_close_gives_up.Goals as goal
use Rattle.serial_model.proofs.Streams.{close_gives_up}

pub returns : goal.returns
returns c = close_gives_up
