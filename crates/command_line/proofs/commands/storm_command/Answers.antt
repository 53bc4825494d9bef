use Rattle.command_line.proofs.commands.storm_command.Goals as goal

pub returns : goal.returns
returns c =
    let with_1 = c.in_ok-command.ensures _ _ c.bare_command-command.ensures in
    c.with_option-2.ensures _ _ with_1
