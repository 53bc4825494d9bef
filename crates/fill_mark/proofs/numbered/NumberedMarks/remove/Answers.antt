use Rattle.std.proofs.Common.{ap, ◌∙◌, map}
use Rattle.fill_mark.specs.Marks.{query_marked, without_number}
use Rattle.fill_mark.specs.Tables.{mark_of}
use Rattle.fill_mark.proofs.Numbers.{found_entry, removed_entry}
use Rattle.fill_mark.proofs.numbered.NumberedMarks.remove.Goals as goal

pub returns-clause-query : goal.returns-clause-query
returns-clause-query c =
    c.remove.ensures.value ∙ found_entry c.args.number c.self.inside.queries.entries
    ∙ ap (query_marked c.args.number) c.self.view_is

pub returns-clause-rest : goal.returns-clause-rest
returns-clause-rest c =
    ap (map mark_of) c.remove.ensures.entries
    ∙ removed_entry c.args.number c.self.inside.queries.entries c.self.invariant
    ∙ ap (without_number c.args.number) c.self.view_is
