use Rattle.command_line.proofs.commands.script_command.Goals as goal

pub returns : goal.returns
returns c =
    let with_1 = c.in_ok-command.ensures _ _ c.bare_command-command.ensures in
    let with_2 = c.in_ok-command-2.ensures _ _ with_1 in
    let with_3 = c.in_ok-command-3.ensures _ _ with_2 in
    let with_4 = c.in_ok-command-4.ensures _ _ with_3 in
    let with_5 = c.in_ok-command-5.ensures _ _ with_4 in
    let with_6 = c.in_ok-command-6.ensures _ _ with_5 in
    c.with_flag-2.ensures _ _ with_6
