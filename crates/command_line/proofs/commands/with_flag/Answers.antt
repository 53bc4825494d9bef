use Rattle.std.proofs.Common.{rules, ◌≡◌}
use Rattle.std.proofs.lemmas.Result.{IfOk-weaker}
use Rattle.clap.specs.Words.{rule_of}
use Rattle.command_line.specs.Clap.{raw_rule}
use Rattle.command_line.specs.Options.{flag}
use Rattle.command_line.proofs.Building.{with_one}
use Rattle.command_line.proofs.commands.with_flag.Goals as goal

pub returns : goal.returns
returns c = λ name known before.
    let k = flag c.args.name.now in
    let rule : rule_of c.action-flag.result ≡ raw_rule k = search rules in
    IfOk-weaker c.arg.result _ _
    (λ command adds.
    with_one name known k _ command c.action-flag.result adds (search rules) rule before)
    c.arg.ensures
