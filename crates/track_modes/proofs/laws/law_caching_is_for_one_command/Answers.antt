use Rattle.track_modes.proofs.laws.law_caching_is_for_one_command.Goals as goal
use Rattle.std.proofs.Common.{arith}
use Rattle.track_modes.specs.Commands.{after_command}

pub returns : goal.returns
unfolding after_command
returns c command m other = grind arith
