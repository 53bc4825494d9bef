use Rattle.std.proofs.Common.{ap, ◌∙◌, sym, arith}
use Rattle.std.specs.List.{list_any}
use Rattle.fill_mark.specs.Tables.{is_marked}
use Rattle.fill_mark.proofs.Indexed.{indexed_filter, indexed_settled, indexed_as}
use Rattle.fill_mark.proofs.mark_table.MarkTable.settle.Goals as goal

pub invariant_of-self : goal.invariant_of-self
invariant_of-self c = grind (arith, indexed_as, indexed_filter)

pub invariant_of-self-then-not-is_any_marked : goal.invariant_of-self-then-not-is_any_marked
invariant_of-self-then-not-is_any_marked c =
    let keys = c.self.inside.keys in
    let marks = c.remove.new.self in
    let key = c.key.result.now in
    let none = ap (list_any (is_marked marks)) (sym c.numbers.ensures)
    ∙ sym c.is_any_marked.ensures ∙ c.if-not-is_any_marked.true in
    grind (arith, indexed_as, indexed_settled, indexed_filter)

pub invariant_of-self-else-not-is_any_marked : goal.invariant_of-self-else-not-is_any_marked
invariant_of-self-else-not-is_any_marked c = grind (arith, indexed_as, indexed_filter)
