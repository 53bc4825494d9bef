use Rattle.std.proofs.Common.{arith, ◌≡◌, ◌∙◌, sym, subst}
use Rattle.command_words.specs.Expiry.{without_due}
use Rattle.expiry.specs.Index.{left}
use Rattle.command_set.specs.InStep.{InStep}
use Rattle.command_set.proofs.PastDeadlines.{dropped, left_in_step}
use Rattle.command_set.proofs.Unchanged.{none_due}
use Rattle.command_set.proofs.take_due.take_due.Goals as goal

pub returns-then-are_none-clause-space : goal.returns-then-are_none-clause-space
returns-then-are_none-clause-space c =
    sym (none_due c.args.moment c.args.index.now c.args.space.now c.requires.step
    (sym c.requires.keys ∙ c.are_none.ensures c.if-are_none.true))

pub returns-clause-space : goal.returns-clause-space
returns-clause-space c = grind (arith, dropped)

pub returns-clause-step : goal.returns-clause-step
returns-clause-step c =
    let s = c.args.space.now in
    let m = c.args.moment in
    let space : c.take_each.new.space ≡ without_due m s = grind (arith, dropped) in
    subst (λ i. InStep i c.take_each.new.space) (sym c.drop_due.ensures)
    (subst (InStep (left m c.args.index.now)) (sym space)
    (left_in_step m s c.args.index.now c.requires.step))
