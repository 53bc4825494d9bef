use Rattle.std.proofs.Common.{ap, sym, subst, ◌∙◌}
use Rattle.command_set.specs.InStep.{InStep, settled}
use Rattle.command_set.proofs.TakenOut.{moving_step}
use Rattle.command_set.proofs.moving.run_moving.Goals as goal

pub returns-clause-step : goal.returns-clause-step
returns-clause-step c =
    let s = c.args.space.now in
    let t = c.move_row-moved.new.space in
    let index = c.args.index.now in
    subst (λ i. InStep i t) (sym (c.settle.ensures
    ∙ ap (λ ds. settled ds t index) (c.as_slice.ensures.value ∙ c.in_ok-before.ensures)))
    (moving_step c.args.command.now s t c.args.moment c.move_row-moved.result c.args.keys.now index
    c.requires.step c.requires.keys c.requires.moves c.move_row-moved.ensures.space
    c.move_row-moved.ensures.err)
