use Rattle.std.proofs.Common.{◌≡◌, ◌∙◌, ap, subst}
use Rattle.std.specs.List.Sorted.{IsPermutation}
use Rattle.std.proofs.lemmas.List.{take_all}
use Rattle.std.proofs.lemmas.List.Filters.{dedup_is}
use Rattle.prefix_table.proofs.Several.{all_places, merged}
use Rattle.prefix_table.proofs.table.PrefixTable.matching_any.Goals as goal

pub returns : goal.returns
returns c =
    let rs = c.args.self.now in
    let keys = c.args.keys.now in
    let all : c.loop-number.places.items ≡ all_places rs keys =
    c.loop-number.invariant ∙ ap (all_places rs) (take_all _ keys c.loop-number-test.false) in
    dedup_is _ _ _ c.dedup.ensures.filtered
    ∙ merged rs keys c.sort_unstable.new.self.items
    (subst (λ l. IsPermutation l c.sort_unstable.new.self.items) all
    c.sort_unstable.ensures.permutation) c.sort_unstable.ensures.sorted
