use Rattle.std.proofs.Common.{◌≡◌, ap, sym, subst, ◌∙◌, cond, Some}
use Rattle.std.specs.Map.{lookup, remove_entry}
use Rattle.track_table.specs.declared.table.Held.{Held}
use Rattle.track_table.specs.Table.{freed_of, without_connection}
use Rattle.track_table.specs.Aged.{IsHeldAt, rows_of}
use Rattle.track_table.specs.Marks.{IsGone, IsOut, age_at}
use Rattle.track_table.proofs.Aged.{at_age, here}
use Rattle.track_table.proofs.Coverings.{at_row, changed_at, freed_less, freed_none, out_less}
use Rattle.track_table.proofs.Indexes.{freed_indexed, freed_rows, gone_entries, gone_rows, left_out}
use Rattle.track_table.proofs.Indexes.{out_indexed, out_rows, row_none, row_same}
use Rattle.track_table.proofs.Parts.{released_first}
use Rattle.track_table.proofs.rows.release_at.Goals as goal
use Rattle.track_table.proofs.rows.release_at.Goals.{After-take_holder, After-drop_age}

-- the row of this age
there : (c : After-take_holder) → lookup (at_age c.args.age) c.args.rows.now.entries
    ≡ Some c.in-Some.field-0.now
there c = sym c.in-Some.ensures.value

at : (c : After-take_holder) → Some c.args.age ≡ age_at c.in-Some.field-0.now.key
    c.args.rows.now.entries c.args.marks.now.entries c.args.others.now.entries
at c =
    sym (c.requires.found c.in-Some.field-0.now.key
    ∙ at_row c.args.age c.in-Some.field-0.now c.args.rows.now.entries c.requires.table.ordered
    (there c))

-- the row once the connection is out of it
after : (c : After-take_holder) → lookup (at_age c.args.age) c.take_holder.new.rows.entries
    ≡ Some (freed_of c.args.id c.in-Some.field-0.now)
after c =
    changed_at c.args.age c.in-Some.field-0.now c.args.rows.now.entries
    c.take_holder.new.rows.entries (freed_of c.args.id) (there c) c.take_holder.ensures.row
    c.args.age
    ∙ ap (λ t. cond t (Some (freed_of c.args.id c.in-Some.field-0.now))
    (lookup (at_age c.args.age) c.args.rows.now.entries)) (here c.args.age)

-- ---- a row that others hold

pub returns-then-take_holder-clause-indexed : goal.returns-then-take_holder-clause-indexed
returns-then-take_holder-clause-indexed c =
    let g = (goal.at.returns-then-take_holder-clause-indexed c).After-take_holder in
    freed_indexed c.in-Some.field-0.now.key c.args.age c.args.rows.now.entries
    c.take_holder.new.rows.entries c.args.marks.now.entries c.args.others.now.entries c.requires
    c.take_holder.ensures.order (at g) c.args.id c.take_holder.ensures.row
    (subst (λ b. IsHeldAt c.args.age b c.take_holder.new.rows.entries) c.if-take_holder.true
    c.take_holder.ensures.held)

pub returns-then-take_holder-clause-rows : goal.returns-then-take_holder-clause-rows
returns-then-take_holder-clause-rows c =
    let g = (goal.at.returns-then-take_holder-clause-rows c).After-take_holder in
    ap (without_connection c.args.id) (freed_rows c.in-Some.field-0.now.key c.args.age
    c.args.rows.now.entries c.take_holder.new.rows.entries c.args.marks.now.entries
    c.args.others.now.entries c.requires c.take_holder.ensures.order (at g) c.args.id
    c.take_holder.ensures.row
    (subst (λ b. IsHeldAt c.args.age b c.take_holder.new.rows.entries) c.if-take_holder.true
    c.take_holder.ensures.held))
    ∙ released_first c.args.id c.in-Some.field-0.now.key (rows_of c.args.rows.now.entries)

pub returns-then-take_holder-clause-less : goal.returns-then-take_holder-clause-less
returns-then-take_holder-clause-less c =
    freed_less c.args.id c.args.age c.in-Some.field-0.now c.args.rows.now.entries
    c.take_holder.new.rows.entries
    (there (goal.at.returns-then-take_holder-clause-less c).After-take_holder)
    c.take_holder.ensures.row

pub returns-then-take_holder-clause-gone : goal.returns-then-take_holder-clause-gone
returns-then-take_holder-clause-gone c =
    freed_none c.args.id c.args.age c.in-Some.field-0.now c.args.rows.now.entries
    c.take_holder.new.rows.entries
    (there (goal.at.returns-then-take_holder-clause-gone c).After-take_holder)
    c.take_holder.ensures.row

-- ---- a row that nobody holds

gone : (c : After-drop_age) → IsGone c.in-Some.field-0.now.key c.args.age
    c.args.marks.now.entries c.drop_age.new.marks.entries c.args.others.now.entries
    c.drop_age.new.others.entries
gone c =
    subst (λ k. IsGone k c.args.age c.args.marks.now.entries c.drop_age.new.marks.entries
    c.args.others.now.entries c.drop_age.new.others.entries)
    (c.key.ensures ∙ ap (λ (r : Held). r.key) (row_same c.in-Some-remove.row
    (freed_of c.args.id c.in-Some.field-0.now) _ c.in-Some-remove.ensures.value
    (after (goal.at.After-drop_age c).After-take_holder))) c.drop_age.ensures

out : (c : After-drop_age) → IsOut c.args.age c.args.rows.now.entries c.remove.new.self.entries
out c =
    left_out c.in-Some.field-0.now.key c.args.age c.args.rows.now.entries
    c.take_holder.new.rows.entries c.args.marks.now.entries c.args.others.now.entries c.requires
    c.take_holder.ensures.order (at (goal.at.After-drop_age c).After-take_holder) c.args.id
    c.remove.new.self.entries c.take_holder.ensures.row c.in-Some-remove.ensures.updates.0

entries : (c : After-drop_age) → c.remove.new.self.entries
    ≡ remove_entry (at_age c.args.age) c.args.rows.now.entries
entries c =
    gone_entries c.in-Some.field-0.now.key c.args.age c.args.rows.now.entries
    c.take_holder.new.rows.entries c.args.marks.now.entries c.args.others.now.entries c.requires
    c.take_holder.ensures.order (at (goal.at.After-drop_age c).After-take_holder) c.args.id
    c.remove.new.self.entries c.take_holder.ensures.row c.in-Some-remove.ensures.entries

pub returns-in-Some-remove-clause-indexed : goal.returns-in-Some-remove-clause-indexed
returns-in-Some-remove-clause-indexed c =
    let g = (goal.at.returns-in-Some-remove-clause-indexed c).After-drop_age in
    out_indexed c.in-Some.field-0.now.key c.args.age c.args.rows.now.entries
    c.remove.new.self.entries c.args.marks.now.entries c.drop_age.new.marks.entries
    c.args.others.now.entries c.drop_age.new.others.entries c.requires
    c.in-Some-remove.ensures.ordered (at (goal.at.After-drop_age g).After-take_holder) (entries g)
    (out g) (gone g)

pub returns-in-Some-remove-clause-rows : goal.returns-in-Some-remove-clause-rows
returns-in-Some-remove-clause-rows c =
    let g = (goal.at.returns-in-Some-remove-clause-rows c).After-drop_age in
    let h = (goal.at.After-drop_age g).After-take_holder in
    ap (without_connection c.args.id) (out_rows c.in-Some.field-0.now.key c.args.age
    c.args.rows.now.entries c.remove.new.self.entries c.args.marks.now.entries
    c.drop_age.new.marks.entries c.args.others.now.entries c.drop_age.new.others.entries c.requires
    c.in-Some-remove.ensures.ordered (at h) (entries g)
    ∙ sym (gone_rows c.in-Some.field-0.now.key c.args.age c.args.rows.now.entries
    c.take_holder.new.rows.entries c.args.marks.now.entries c.args.others.now.entries c.requires
    c.take_holder.ensures.order (at h) c.args.id c.take_holder.ensures.row
    (subst (λ b. IsHeldAt c.args.age b c.take_holder.new.rows.entries) c.if-take_holder.false
    c.take_holder.ensures.held)))
    ∙ released_first c.args.id c.in-Some.field-0.now.key (rows_of c.args.rows.now.entries)

pub returns-in-Some-remove-clause-less : goal.returns-in-Some-remove-clause-less
returns-in-Some-remove-clause-less c =
    out_less c.args.age c.args.rows.now.entries c.remove.new.self.entries
    (out (goal.at.returns-in-Some-remove-clause-less c).After-drop_age)

-- ---- the row is there

pub returns-in_default-remove-clause-indexed : goal.returns-in_default-remove-clause-indexed
returns-in_default-remove-clause-indexed c =
    row_none _ _ c.in_default-remove.ensures.value
    (after (goal.at.returns-in_default-remove-clause-indexed c).After-take_holder)

pub returns-in_default-remove-clause-rows : goal.returns-in_default-remove-clause-rows
returns-in_default-remove-clause-rows c =
    row_none _ _ c.in_default-remove.ensures.value
    (after (goal.at.returns-in_default-remove-clause-rows c).After-take_holder)

pub returns-in_default-remove-clause-less : goal.returns-in_default-remove-clause-less
returns-in_default-remove-clause-less c =
    row_none _ _ c.in_default-remove.ensures.value
    (after (goal.at.returns-in_default-remove-clause-less c).After-take_holder)
