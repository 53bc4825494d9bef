use Rattle.std.proofs.Common.{rules, arith, ap, sym, ◌∙◌, ◌==◌, not}
use Rattle.std.specs.List.{slice_get}
use Rattle.std.proofs.lemmas.Fn.{filter_same}
use Rattle.std.proofs.lemmas.Option.{slice_get_within, get_or_from_slice_get}
use Rattle.fill_mark.specs.declared.marks.Mark.{Mark}
use Rattle.fill_mark.specs.Marks.{without_number}
use Rattle.fill_mark.proofs.Found.{none_goes, removed}
use Rattle.fill_mark.proofs.mark_list.MarkList.settle.Goals as goal

pub returns-in_err-place-clause-rest : goal.returns-in_err-place-clause-rest
returns-in_err-place-clause-rest c = grind (arith, none_goes)

pub remove-mark-requires : goal.remove-mark-requires
remove-mark-requires c = grind (arith, slice_get_within)

pub returns-clause-query : goal.returns-clause-query
returns-clause-query c = grind (arith, get_or_from_slice_get)

pub returns-clause-rest : goal.returns-clause-rest
returns-clause-rest c =
    let found = c.in_ok-place.ensures in
    filter_same _ _ _ (λ x b f' k. search rules) _ _ c.retain.ensures.filtered
    ∙ ap (without_number c.args.number) c.remove-mark.ensures.items
    ∙ removed (λ (m : Mark). not (m.number == c.args.number)) c.self.inside.items.items
    c.in_ok-place.place found.mark
    (ap (λ l. slice_get l c.in_ok-place.place) (sym c.deref.ensures.value) ∙ found.at)
    (ap not found.number_is)
    ∙ ap (without_number c.args.number) c.self.view_is
