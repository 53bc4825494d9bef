use Rattle.std.proofs.Common.{arith}
use Rattle.std.proofs.lemmas.Grind.{common_steps}
use Rattle.command_set.specs.Priors.{priors_of}
use Rattle.command_set.proofs.MovedAside.{one_aside}
use Rattle.command_set.proofs.aside.move_one.Goals as goal

pub returns-clause-back : goal.returns-clause-back
returns-clause-back c =
    one_aside (priors_of c.args.aside.now.items) (priors_of c.push_reserved.new.self.items)
    c.args.key.now c.args.space.now c.hollow-held.new.self (grind (arith, common_steps))
    (grind arith)
