use Rattle.std.proofs.Common.{rules, ap, sym, subst, ◌∙◌, arith}
use Rattle.std.specs.Prelude.{not}
use Rattle.std.proofs.lemmas.Fn.{filter_same}
use Rattle.expiry.specs.Index.{is_due, left}
use Rattle.expiry.specs.Order.{IsOrdered}
use Rattle.expiry.proofs.Fronts.{none_gone}
use Rattle.expiry.proofs.Orders.{ordered_filter}
use Rattle.expiry.proofs.block.Block.drop_due.Goals as goal

pub invariant_of-self : goal.invariant_of-self
invariant_of-self c =
    subst IsOrdered (sym (filter_same _ _ _ (λ x b f' k. search rules) _ _
    c.retain.ensures.filtered))
    (ordered_filter (λ d. not (is_due c.args.moment d)) c.self.inside.deadlines.items
    c.self.invariant)

pub returns-then-due_count-gt0 : goal.returns-then-due_count-gt0
returns-then-due_count-gt0 c =
    filter_same _ _ _ (λ x b f' k. search rules) _ _ c.retain.ensures.filtered
    ∙ ap (left c.args.moment) c.self.view_is

pub returns-else-due_count-gt0 : goal.returns-else-due_count-gt0
returns-else-due_count-gt0 c = grind (arith, none_gone)
