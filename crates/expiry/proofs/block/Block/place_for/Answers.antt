use Rattle.std.proofs.Common.{arith, ◌<◌, ◌+◌, ◌-◌, ◌/◌, List, length, get_or, ap, subst, ◌∙◌}
use Rattle.std.proofs.lemmas.List.{get_or_read}
use Rattle.expiry.specs.declared.index.Deadline.{Deadline}
use Rattle.expiry.specs.Order.{IsOrdered}
use Rattle.expiry.proofs.Halving.{all_up_to}
use Rattle.expiry.proofs.block.Block.place_for.Goals as goal

pub halves-preserved-then-comes_before : goal.halves-preserved-then-comes_before
halves-preserved-then-comes_before c =
    let inv = c.halves.invariant in
    let ds = c.args.self.now in
    let n = c.halves.low + (c.halves.high - c.halves.low) / 2 in
    let lt : n < length ds =
    omega (arith, inv.1, c.halves-test.true) in
    let read = c.index.ensures
    ∙ ap (λ (l : List Deadline). get_or l n c.index.result.now) c.self.view_is in (
      omega (arith, c.halves-test.true),
      inv.1,
      all_up_to _ ds n (subst IsOrdered c.self.view_is c.self.invariant) lt
          (grind (arith, get_or_read)),
      inv.3,
    )
