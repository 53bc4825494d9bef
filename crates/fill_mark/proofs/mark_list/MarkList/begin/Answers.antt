use Rattle.std.proofs.Common.{rules, ap, ◌∙◌, ◌++◌, ◌∷◌, []}
use Rattle.std.proofs.lemmas.Fn.{filter_same}
use Rattle.fill_mark.specs.Marks.{without_query}
use Rattle.fill_mark.proofs.mark_list.MarkList.begin.Goals as goal

pub returns-clause-ok : goal.returns-clause-ok
returns-clause-ok c =
    c.push_reserved.ensures.items
    ∙ ap (λ l. l ++ record { number = c.args.number; query = c.args.query } ∷ [])
    (filter_same _ _ _ (λ x b f' k. search rules) _ _ c.retain.ensures.filtered
    ∙ ap (without_query c.args.query) (c.in_ok-reserve.ensures.items ∙ c.self.view_is))
