use Rattle.std.proofs.Common.{sym, subst}
use Rattle.command_set.specs.InStep.{InStep}
use Rattle.command_set.proofs.Steps.{emptied}
use Rattle.command_set.proofs.run.run_flush.Goals as goal

pub returns-clause-step : goal.returns-clause-step
returns-clause-step c =
    subst (λ i. InStep i c.run_row.new.space) (sym c.clear.ensures)
    (emptied c.args.command.now c.args.space.now c.args.moment c.run_row.new.space
    c.requires.all c.in_ok-done.ensures.2)
