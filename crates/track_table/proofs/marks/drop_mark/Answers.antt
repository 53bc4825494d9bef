use Rattle.std.proofs.Common.{ap, sym, ◌∙◌, eq-eqb, ne_eqb}
use Rattle.track_table.specs.Marks.{is_age}
use Rattle.track_table.proofs.Marked.{mark_dropped, mark_kept}
use Rattle.track_table.proofs.marks.drop_mark.Goals as goal

pub returns-then-at-age : goal.returns-then-at-age
returns-then-at-age c =
    mark_dropped c.args.mark c.args.age c.args.marks.now.entries c.remove.new.self.entries
    (ap (λ o. is_age o c.args.age) (sym c.in-Some.ensures.value) ∙ eq-eqb c.in-Some.at.now
    c.args.age c.if-at-age.true)
    c.remove.ensures.updates.0

pub returns-else-at-age : goal.returns-else-at-age
returns-else-at-age c =
    mark_kept c.args.mark c.args.age c.args.marks.now.entries c.args.marks.now.entries
    (ap (λ o. is_age o c.args.age) (sym c.in-Some.ensures.value) ∙ ne_eqb c.in-Some.at.now
    c.args.age c.if-at-age.false)

pub returns-in_default : goal.returns-in_default
returns-in_default c =
    mark_kept c.args.mark c.args.age c.args.marks.now.entries c.args.marks.now.entries
    (ap (λ o. is_age o c.args.age) (sym c.in_default.ensures.value))
