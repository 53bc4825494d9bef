use Rattle.std.proofs.Common.{sym, ◌∙◌}
use Rattle.command_set.proofs.Unchanged.{nothing_due, settled_shown}
use Rattle.command_set.proofs.run_due.expire.Goals as goal

pub returns-then-are_none-clause-ok : goal.returns-then-are_none-clause-ok
returns-then-are_none-clause-ok c =
    settled_shown c.args.parts.now c.requires.settled
    ∙ sym (nothing_due c.args.moment c.args.parts.now c.requires.step c.requires.settled
    (sym c.in_ok-keys.ensures ∙ (sym c.as_slice.ensures ∙ c.are_none.ensures c.if-are_none.true)))
