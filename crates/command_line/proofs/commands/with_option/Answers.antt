use Rattle.std.proofs.Common.{rules, ◌≡◌}
use Rattle.std.proofs.lemmas.Result.{IfOk-weaker}
use Rattle.clap.specs.Words.{rule_of}
use Rattle.command_line.specs.Clap.{raw_rule}
use Rattle.command_line.specs.Options.{valued}
use Rattle.command_line.proofs.Building.{with_one}
use Rattle.command_line.proofs.commands.with_option.Goals as goal

pub returns : goal.returns
returns c = λ name known before.
    let k = valued c.args.name.now c.args.is_required in
    let rule : rule_of c.action-option.result ≡ raw_rule k = search rules in
    IfOk-weaker c.arg.result _ _
    (λ command adds.
    with_one name known k _ command c.action-option.result adds (search rules) rule before)
    c.arg.ensures
