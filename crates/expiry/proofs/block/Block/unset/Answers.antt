use Rattle.std.proofs.Common.{◌≡◌, ◌<◌, arith, false, length, ap, subst, sym}
use Rattle.std.specs.Prelude.{not}
use Rattle.std.proofs.lemmas.List.{get_or_read}
use Rattle.expiry.specs.Index.{is_same, without}
use Rattle.expiry.specs.Order.{IsOrdered}
use Rattle.expiry.specs.Places.{deadline_at}
use Rattle.expiry.proofs.Halving.{without_there, without_none, not_there}
use Rattle.expiry.proofs.Orders.{ordered_filter}
use Rattle.expiry.proofs.block.Block.unset.Goals as goal
use Rattle.expiry.proofs.block.Block.unset.Goals.{After-drop-remove, Joined-else-place-len}
use Rattle.expiry.proofs.block.Block.unset.Goals.{else-place-len-via-then-place-len+else-is_same}
use Rattle.expiry.proofs.block.Block.unset.Goals.{else-place-len-via-else-place-len}

removed : (c : After-drop-remove) → c.remove.new.self.items
    ≡ without (record { at = c.args.deadline; key = c.args.key.now }) c.args.self.now
removed c = grind (arith, get_or_read, without_there)

pub invariant_of-self : goal.invariant_of-self
invariant_of-self c =
    subst IsOrdered (sym (removed c))
    (ordered_filter (λ e. not (is_same (record { at = c.args.deadline; key = c.args.key.now }) e))
    c.args.self.now (subst IsOrdered c.self.view_is c.self.invariant))

pub returns-then-is_same-clause-gone : goal.returns-then-is_same-clause-gone
returns-then-is_same-clause-gone c = removed c

other : (c : Joined-else-place-len) → c.place_for-place.result < length c.args.self.now
    → is_same (record { at = c.args.deadline; key = c.args.key.now })
    (deadline_at c.args.self.now c.place_for-place.result) ≡ false
other c lt = elim c.else-place-len.branch [
  | else-place-len-via-then-place-len+else-is_same w ↦ grind (arith, get_or_read)
  | else-place-len-via-else-place-len w ↦
      absurd (omega (
        arith,
        lt,
        w.if-place-len.false,
        c.len.ensures,
        ap length c.self.view_is,
        c.self.inside.deadlines.ok.0,
      ))
]

pub returns-else-place-len-clause-gone : goal.returns-else-place-len-clause-gone
returns-else-place-len-clause-gone c =
    sym (without_none _ c.args.self.now _ (subst IsOrdered c.self.view_is c.self.invariant)
    c.place_for-place.ensures (other c))

pub returns-else-place-len-clause-was : goal.returns-else-place-len-clause-was
returns-else-place-len-clause-was c =
    sym (not_there _ c.args.self.now _ (subst IsOrdered c.self.view_is c.self.invariant)
    c.place_for-place.ensures (other c))
