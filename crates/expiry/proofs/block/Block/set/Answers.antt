use Rattle.std.proofs.Common.{◌≡◌, ◌<◌, List, length, get_or, ap, subst, sym, ◌∙◌, arith}
use Rattle.std.proofs.lemmas.List.{get_or_read}
use Rattle.expiry.specs.declared.index.Deadline.{Deadline}
use Rattle.expiry.specs.Index.{with}
use Rattle.expiry.specs.Order.{IsOrdered}
use Rattle.expiry.proofs.Fronts.{with_same, with_new}
use Rattle.expiry.proofs.Orders.{ordered_with}
use Rattle.expiry.proofs.block.Block.set.Goals as goal
use Rattle.expiry.proofs.block.Block.set.Goals.{In_ok-insert}

pub returns-then-is_same-clause-ok : goal.returns-then-is_same-clause-ok
returns-then-is_same-clause-ok c =
    let ds = c.args.self.now in
    let n = c.place_for-place.result in
    let d : Deadline = record { at = c.args.deadline; key = c.args.key.now } in
    let lt : n < length ds =
    omega (arith, ap length c.self.view_is, c.self.inside.deadlines.ok.0) in
    let read = c.index.ensures
    ∙ ap (λ (l : List Deadline). get_or l n c.index.result.now) c.self.view_is in
    sym (with_same d ds n c.place_for-place.ensures lt
    (grind (arith, get_or_read)))

placed : (c : In_ok-insert) → c.insert.new.self.items
    ≡ with (record { at = c.args.deadline; key = c.args.key.now }) c.args.self.now
placed c = grind (arith, get_or_read, with_new)

pub invariant_of-self-2 : goal.invariant_of-self-2
invariant_of-self-2 c =
    subst IsOrdered (sym (placed c)) (grind (arith, ordered_with))

pub returns-clause-ok : goal.returns-clause-ok
returns-clause-ok c = placed c
