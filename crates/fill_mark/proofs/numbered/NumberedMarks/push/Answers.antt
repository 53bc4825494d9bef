use Rattle.std.proofs.Common.{ap, ◌∙◌, ◌++◌, ◌∷◌, [], map, subst}
use Rattle.fill_mark.specs.Tables.{mark_of, Among}
use Rattle.fill_mark.proofs.Numbers.{inserted_last}
use Rattle.fill_mark.proofs.numbered.NumberedMarks.push.Goals as goal

pub returns-clause-ok : goal.returns-clause-ok
returns-clause-ok c =
    ap (map mark_of) c.in_ok-insert.ensures.entries
    ∙ inserted_last c.args.number c.args.query c.self.inside.queries.entries
    (λ m a. c.requires m (subst (Among m) c.self.view_is a))
    ∙ ap (λ l. l ++ record { number = c.args.number; query = c.args.query } ∷ []) c.self.view_is
