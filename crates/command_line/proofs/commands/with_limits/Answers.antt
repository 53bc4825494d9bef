use Rattle.std.proofs.lemmas.Result.{IfOk-weaker}
use Rattle.command_line.proofs.Building.{three_added}
use Rattle.command_line.proofs.commands.with_limits.Goals as goal

pub returns : goal.returns
returns c = λ name known before.
    let table = c.in_ok-command.ensures name known before in
    let out = c.in_ok-command-2.ensures name _ table in
    IfOk-weaker c.with_option-3.result _ _
    (λ command history. three_added name known _ _ _ command history)
    (c.with_option-3.ensures name _ out)
