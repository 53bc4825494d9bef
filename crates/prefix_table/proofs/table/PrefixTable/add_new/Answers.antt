use Rattle.std.proofs.Common.{◌≡◌, ◌++◌, ◌∷◌, [], ap, ◌∙◌, arith}
use Rattle.prefix_table.specs.Withdrawals.{all_withdrawn, withdrawn}
use Rattle.prefix_table.proofs.Withdrawals.{last_withdrawn, withdrawn_registered}
use Rattle.prefix_table.proofs.table.PrefixTable.add_new.Goals as goal
use Rattle.prefix_table.proofs.table.PrefixTable.add_new.Goals.{After-push}

-- what is new is withdrawn again
undone : (c : After-push)
    → withdrawn c.args.id c.args.prefix.now c.add.new.self ≡ c.args.self.now
undone c = grind (arith, withdrawn_registered)

pub returns-in-Ok-clause-back : goal.returns-in-Ok-clause-back
returns-in-Ok-clause-back c =
    ap (λ ps. all_withdrawn c.args.id ps c.add.new.self)
    (c.in-Ok.ensures.ok ∙ ap (λ p. c.args.new.now ++ p ∷ []) c.in_ok-copy.ensures)
    ∙ last_withdrawn c.args.id c.args.new.now c.args.prefix.now c.add.new.self
    ∙ ap (all_withdrawn c.args.id c.args.new.now)
    (undone (goal.at.returns-in-Ok-clause-back c).After-push)

pub returns-in-Err-clause-err : goal.returns-in-Err-clause-err
returns-in-Err-clause-err c = (
  c.withdraw.ensures ∙ undone (goal.at.returns-in-Err-clause-err c).After-push,
  c.in-Err.ensures.err,
)
