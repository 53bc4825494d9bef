use Rattle.std.proofs.Common.{arith, refl, sym, ◌∙◌}
use Rattle.hash_cmds.proofs.HashRows.{dropped, stays}
use Rattle.hash_cmds.proofs.TakenFields.{empty_again}
use Rattle.hash_cmds.proofs.change.take_empty.Goals as goal

pub returns-then-holds_empty-clause-dropped : goal.returns-then-holds_empty-clause-dropped
returns-then-holds_empty-clause-dropped c = grind (arith, dropped)

pub returns-then-holds_empty-clause-back : goal.returns-then-holds_empty-clause-back
returns-then-holds_empty-clause-back c =
    empty_again c.args.key.now c.args.space.now c.take.new.self _ c.take.ensures.was
    (sym c.holds_empty.ensures ∙ c.if-holds_empty.true) c.take.ensures.gone

pub returns-else-holds_empty-clause-dropped : goal.returns-else-holds_empty-clause-dropped
returns-else-holds_empty-clause-dropped c = grind (arith, stays)

pub returns-else-holds_empty-clause-back : goal.returns-else-holds_empty-clause-back
returns-else-holds_empty-clause-back c = refl
