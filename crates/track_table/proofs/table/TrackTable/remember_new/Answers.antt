use Rattle.std.proofs.Common.{◌≡◌, ◌++◌, ◌∷◌, [], ap, ◌∙◌, arith}
use Rattle.track_table.specs.Table.{all_released, released}
use Rattle.track_table.proofs.Releases.{last_released, released_remembered, remembered_held}
use Rattle.track_table.proofs.table.TrackTable.remember_new.Goals as goal
use Rattle.track_table.proofs.table.TrackTable.remember_new.Goals.{After-push}

-- what is new is released again
undone : (c : After-push)
    → released c.args.id c.args.key.now c.remember.new.self.rows ≡ c.args.self.now.rows
undone c = grind (arith, released_remembered)

pub returns-then-holds-clause-ok : goal.returns-then-holds-clause-ok
returns-then-holds-clause-ok c = grind (arith, remembered_held)

pub returns-in-Ok-clause-back : goal.returns-in-Ok-clause-back
returns-in-Ok-clause-back c =
    ap (λ ks. all_released c.args.id ks c.remember.new.self.rows)
    (c.in-Ok.ensures.ok ∙ ap (λ k. c.args.new.now ++ k ∷ []) c.in_ok-copy.ensures)
    ∙ last_released c.args.id c.args.new.now c.args.key.now c.remember.new.self.rows
    ∙ ap (all_released c.args.id c.args.new.now)
    (undone (goal.at.returns-in-Ok-clause-back c).After-push)

pub returns-in-Err-clause-err : goal.returns-in-Err-clause-err
returns-in-Err-clause-err c = (
  c.release.ensures.rows ∙ undone (goal.at.returns-in-Err-clause-err c).After-push,
  c.in-Err.ensures.err,
)
