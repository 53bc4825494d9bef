use Rattle.std.proofs.Common.{arith, ◌∙◌}
use Rattle.std.proofs.lemmas.Grind.{common_steps}
use Rattle.command_set.specs.Priors.{priors_of}
use Rattle.command_set.proofs.MovedAside.{one_renamed}
use Rattle.command_set.proofs.aside.move_target.Goals as goal

pub returns-clause-back : goal.returns-clause-back
returns-clause-back c =
    one_renamed (priors_of c.move_one.new.aside.items) (priors_of c.push.new.self.items)
    c.args.from.now c.args.to.now c.move_one.new.space (grind (arith, common_steps))
    ∙ c.move_one.ensures.back
