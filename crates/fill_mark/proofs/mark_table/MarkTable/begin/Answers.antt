use Rattle.std.proofs.Common.{arith, ap, ◌∙◌, ◌++◌, ◌∷◌, [], ◌<◌, sym, subst}
use Rattle.std.specs.FinMap.{insert}
use Rattle.fill_mark.specs.declared.marks.Mark.{Mark}
use Rattle.fill_mark.specs.Marks.{with_mark}
use Rattle.fill_mark.specs.Tables.{Among, numbers_at, marked_among, without_some}
use Rattle.fill_mark.proofs.Indexed.{indexed_before, indexed_with, indexed_as, older_goes}
use Rattle.fill_mark.proofs.mark_table.MarkTable.begin.Goals as goal

pub push-requires : goal.push-requires
push-requires c = λ m a. c.requires m (subst (Among m) c.self.view_is a)

pub invariant_of-self-in_err-push : goal.invariant_of-self-in_err-push
invariant_of-self-in_err-push c =
    let keys = c.self.inside.keys in
    let marks = c.self.inside.marks in
    indexed_as _ _ _ _
    (c.in_ok-add.ensures.ok ∙ ap (λ k. insert keys k
    (marked_among marks (numbers_at k keys) ++ c.args.number ∷ [])) c.key-2.ensures)
    c.in_err-push.ensures.err
    (indexed_before c.args.query c.args.number keys marks c.self.invariant
    (λ m a. c.requires m (subst (Among m) c.self.view_is a)))

pub invariant_of-self-2 : goal.invariant_of-self-2
invariant_of-self-2 c =
    let keys = c.self.inside.keys in
    let marks = c.self.inside.marks in
    let query = c.args.query in
    let older = sym (grind arith) in
    let below : (m : Mark) → Among m marks → m.number < c.args.number =
    λ m a. c.requires m (subst (Among m) c.self.view_is a) in
    indexed_as _ _ _ _
    (grind arith)
    (older_goes query c.args.number keys marks c.self.invariant below c.number_of-older.result older
    c.void_number.new.marks
    (c.void_number.ensures ∙ ap (without_some c.number_of-older.result) c.in_ok-push.ensures.ok))
    (indexed_with query c.args.number keys marks c.self.invariant below)

pub returns-clause-ok : goal.returns-clause-ok
returns-clause-ok c =
    let keys = c.self.inside.keys in
    let marks = c.self.inside.marks in
    let query = c.args.query in
    let older = sym (grind arith) in
    older_goes query c.args.number keys marks c.self.invariant
    (λ m a. c.requires m (subst (Among m) c.self.view_is a)) c.number_of-older.result older
    c.void_number.new.marks
    (c.void_number.ensures ∙ ap (without_some c.number_of-older.result) c.in_ok-push.ensures.ok)
    ∙ ap (with_mark c.args.number query) c.self.view_is
