use Rattle.std.proofs.Common.{subst, sym, take, drop, take-append-drop}
use Rattle.expiry.specs.Order.{IsOrdered}
use Rattle.expiry.proofs.Parts.{ordered_left, ordered_right}
use Rattle.expiry.proofs.block.Block.split.Goals as goal

pub invariant_of-result : goal.invariant_of-result
invariant_of-result c =
    let ds = c.self.inside.deadlines.items in
    let keep = c.if-is_last.keep in
    subst IsOrdered (sym c.in_ok-deadlines.ensures.tail)
    (ordered_right (take keep ds) (drop keep ds)
    (subst IsOrdered (sym (take-append-drop keep ds)) c.self.invariant))

pub invariant_of-self-2 : goal.invariant_of-self-2
invariant_of-self-2 c =
    let ds = c.self.inside.deadlines.items in
    let keep = c.if-is_last.keep in
    subst IsOrdered (sym c.in_ok-deadlines.ensures.items)
    (ordered_left (take keep ds) (drop keep ds)
    (subst IsOrdered (sym (take-append-drop keep ds)) c.self.invariant))
