use Rattle.std.proofs.Common.{rules, ap, ◌∙◌}
use Rattle.std.proofs.lemmas.Fn.{filter_same}
use Rattle.fill_mark.specs.Marks.{without_key}
use Rattle.fill_mark.proofs.mark_list.MarkList.void_key.Goals as goal

pub returns : goal.returns
returns c = filter_same _ _ _ (λ x b f' k. search rules) _ _ c.retain.ensures.filtered
    ∙ ap (without_key c.args.key.now) c.self.view_is
