use Rattle.command_line.proofs.commands.bare_command.Goals as goal
use Rattle.std.proofs.Common.{arith}

pub returns : goal.returns
returns c = grind arith
