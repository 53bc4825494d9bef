use Rattle.std.proofs.Common.{arith, ap, ◌∙◌, map}
use Rattle.std.proofs.lemmas.Map.Made.{filter_same_pairs}
use Rattle.fill_mark.specs.Marks.{without_query}
use Rattle.fill_mark.specs.Tables.{mark_of}
use Rattle.fill_mark.proofs.Numbers.{filtered_entries}
use Rattle.fill_mark.proofs.numbered.NumberedMarks.void_query.Goals as goal

pub returns : goal.returns
returns c =
    ap (map mark_of)
    (grind (arith, filter_same_pairs))
    ∙ filtered_entries c.args.query.now c.self.inside.queries.entries
    ∙ ap (without_query c.args.query.now) c.self.view_is
