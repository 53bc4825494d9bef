use Rattle.std.proofs.Common.{arith, ◌≡◌, sym, subst}
use Rattle.command_set.specs.Aside.{left_beside}
use Rattle.command_set.specs.InStep.{InStep}
use Rattle.command_set.proofs.MovedAside.{aside_in_step, over_back, over_same}
use Rattle.command_set.proofs.keeping.run_over.Goals as goal

pub run_on-requires-clause-step : goal.run_on-requires-clause-step
run_on-requires-clause-step c =
    let s = c.args.space.now in
    let now : c.set_aside.new.space ≡ left_beside c.args.command.now c.args.keys.now s =
    grind arith in
    subst (InStep c.args.index.now) (sym now)
    (aside_in_step c.args.command.now c.args.keys.now s c.args.index.now c.requires.step)

pub returns-in-Ok-clause-reply : goal.returns-in-Ok-clause-reply
returns-in-Ok-clause-reply c = grind (arith, over_same)

pub returns-in-Ok-clause-signals : goal.returns-in-Ok-clause-signals
returns-in-Ok-clause-signals c = grind (arith, over_same)

pub returns-in-Ok-clause-space : goal.returns-in-Ok-clause-space
returns-in-Ok-clause-space c = grind (arith, over_same)

pub returns-in-Ok-clause-back : goal.returns-in-Ok-clause-back
returns-in-Ok-clause-back c = grind (arith, over_back, over_same)
