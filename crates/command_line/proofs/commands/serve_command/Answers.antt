use Rattle.command_line.proofs.commands.serve_command.Goals as goal

pub returns : goal.returns
returns c =
    let with_1 = c.in_ok-command.ensures _ _ c.bare_command-command.ensures in
    let with_2 = c.in_ok-command-2.ensures _ _ with_1 in
    let with_3 = c.in_ok-command-3.ensures _ _ with_2 in
    c.with_limits.ensures _ _ with_3
