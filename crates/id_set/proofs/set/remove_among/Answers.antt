use Rattle.std.proofs.Common.{rules, sym, subst}
use Rattle.std.proofs.lemmas.Fn.{filter_same}
use Rattle.id_set.specs.Ids.{Ascend}
use Rattle.id_set.proofs.Orders.{ascend_without}
use Rattle.id_set.proofs.set.remove_among.Goals as goal

pub returns-clause-ids : goal.returns-clause-ids
returns-clause-ids c =
    filter_same _ _ _ (λ x b f' k. search rules) _ _ c.retain.ensures.filtered

pub returns-clause-order : goal.returns-clause-order
returns-clause-order c = λ up.
    subst Ascend (sym (filter_same _ _ _ (λ x b f' k. search rules) _ _ c.retain.ensures.filtered))
    (ascend_without c.args.id c.args.ids.now.items up)
