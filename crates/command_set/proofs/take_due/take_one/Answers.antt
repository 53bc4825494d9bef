use Rattle.std.proofs.Common.{arith}
use Rattle.std.proofs.lemmas.Grind.{common_steps}
use Rattle.command_set.specs.Priors.{priors_of}
use Rattle.command_set.proofs.TakenOut.{one_taken}
use Rattle.command_set.proofs.take_due.take_one.Goals as goal

pub returns-clause-back : goal.returns-clause-back
returns-clause-back c =
    one_taken (priors_of c.args.kept.now.items) (priors_of c.push_reserved.new.self.items)
    c.args.key c.args.space.now c.take-held.new.self (grind (arith, common_steps)) (grind arith)
