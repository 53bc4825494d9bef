use Rattle.std.proofs.Common.{ap, ◌∙◌}
use Rattle.fill_mark.specs.Marks.{query_marked}
use Rattle.fill_mark.proofs.Numbers.{found_entry}
use Rattle.fill_mark.proofs.numbered.NumberedMarks.query_of.Goals as goal

pub returns : goal.returns
returns c =
    c.get.ensures.value ∙ found_entry c.args.number c.self.inside.queries.entries
    ∙ ap (query_marked c.args.number) c.self.view_is
