use Rattle.std.proofs.Common.{get_or, eq-eqb, arith, sym, subst}
use Rattle.std.proofs.lemmas.List.{get_or_read}
use Rattle.id_set.specs.Ids.{Ascend}
use Rattle.id_set.proofs.Orders.{ascend_with}
use Rattle.id_set.proofs.Places.{with_same, with_new}
use Rattle.id_set.proofs.set.insert_among.Goals as goal
use Rattle.id_set.proofs.set.insert_among.Goals.{else-at-len-via-else-at-len}

pub returns-then-index-id-clause-ok : goal.returns-then-index-id-clause-ok
returns-then-index-id-clause-ok c = grind (arith, get_or, with_same, eq-eqb, get_or_read)

pub returns-clause-ok : goal.returns-clause-ok
returns-clause-ok c = grind (arith, get_or_read, else-at-len-via-else-at-len, with_new)

pub returns-clause-order : goal.returns-clause-order
returns-clause-order c = λ up.
    subst Ascend (sym (grind (arith, get_or_read, else-at-len-via-else-at-len, with_new)))
    (ascend_with c.args.id c.args.ids.now.items up)
