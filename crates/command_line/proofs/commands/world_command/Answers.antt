use Rattle.command_line.proofs.commands.world_command.Goals as goal

pub returns : goal.returns
returns c =
    c.with_limits.ensures _ _ c.bare_command.ensures
