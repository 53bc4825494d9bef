use Rattle.std.proofs.Common.{◌≡◌, ap, sym, subst, ◌∙◌}
use Rattle.std.specs.Map.{remove_entry}
use Rattle.track_table.specs.Table.{released}
use Rattle.track_table.specs.Aged.{IsHeldAt}
use Rattle.track_table.specs.Marks.{IsOut}
use Rattle.track_table.proofs.Aged.{absent_row, at_age}
use Rattle.track_table.proofs.Indexes.{freed_indexed, freed_rows, gone_entries, gone_rows, left_out}
use Rattle.track_table.proofs.Indexes.{none_found, out_indexed, out_rows, row_found}
use Rattle.track_table.proofs.Coverings.{cover_but, freed_less, freed_none, out_less, out_none}
use Rattle.track_table.proofs.rows.AgedRows.release.Goals as goal
use Rattle.track_table.proofs.rows.AgedRows.release.Goals.{After-take_out}

gone : (c : After-take_out) → c.take_out.new.rows.entries
    ≡ remove_entry (at_age c.in-Some.age) c.self.inside.rows.entries
gone c =
    gone_entries c.args.key.now c.in-Some.age c.self.inside.rows.entries
    c.take_holder.new.rows.entries c.self.inside.marks.entries
    c.self.inside.others.entries c.self.invariant.indexed
    c.take_holder.ensures.order c.in-Some.ensures c.args.id c.take_out.new.rows.entries
    c.take_holder.ensures.row c.take_out.ensures.entries

out : (c : After-take_out) → IsOut c.in-Some.age c.self.inside.rows.entries
    c.take_out.new.rows.entries
out c =
    left_out c.args.key.now c.in-Some.age c.self.inside.rows.entries
    c.take_holder.new.rows.entries c.self.inside.marks.entries c.self.inside.others.entries
    c.self.invariant.indexed c.take_holder.ensures.order c.in-Some.ensures c.args.id
    c.take_out.new.rows.entries c.take_holder.ensures.row c.take_out.ensures.found

pub invariant_of-self : goal.invariant_of-self
invariant_of-self c = record {
  indexed =
      out_indexed c.args.key.now c.in-Some.age c.self.inside.rows.entries
      c.take_out.new.rows.entries c.self.inside.marks.entries
      c.drop_age.new.marks.entries c.self.inside.others.entries c.drop_age.new.others.entries
      c.self.invariant.indexed
      c.take_out.ensures.order c.in-Some.ensures
      (gone (goal.at.invariant_of-self c).After-take_out)
      (out (goal.at.invariant_of-self c).After-take_out) c.drop_age.ensures;
  covered =
      cover_but c.self.inside.held.ages.entries c.remove.new.self.ages.entries
      c.self.inside.rows.entries
      c.take_out.new.rows.entries c.self.invariant.covered c.args.id c.in-Some.age
      (out_less c.in-Some.age c.self.inside.rows.entries c.take_out.new.rows.entries
      (out (goal.at.invariant_of-self c).After-take_out))
      (out_none c.in-Some.age c.self.inside.rows.entries c.take_out.new.rows.entries
      (out (goal.at.invariant_of-self c).After-take_out) c.args.id)
      c.remove.ensures.kept;
}

pub returns-then-not-take_holder : goal.returns-then-not-take_holder
returns-then-not-take_holder c =
    out_rows c.args.key.now c.in-Some.age c.self.inside.rows.entries
    c.take_out.new.rows.entries c.self.inside.marks.entries
    c.drop_age.new.marks.entries c.self.inside.others.entries c.drop_age.new.others.entries
    c.self.invariant.indexed
    c.take_out.ensures.order c.in-Some.ensures
    (gone (goal.at.returns-then-not-take_holder c).After-take_out)
    ∙ sym (gone_rows c.args.key.now c.in-Some.age c.self.inside.rows.entries
    c.take_holder.new.rows.entries c.self.inside.marks.entries
    c.self.inside.others.entries c.self.invariant.indexed
    c.take_holder.ensures.order c.in-Some.ensures c.args.id c.take_holder.ensures.row
    (subst (λ b. IsHeldAt c.in-Some.age b c.take_holder.new.rows.entries)
    c.if-not-take_holder.true c.take_holder.ensures.held))
    ∙ ap (released c.args.id c.args.key.now) c.self.view_is

pub invariant_of-self-else-not-take_holder : goal.invariant_of-self-else-not-take_holder
invariant_of-self-else-not-take_holder c = record {
  indexed =
      freed_indexed c.args.key.now c.in-Some.age c.self.inside.rows.entries
      c.take_holder.new.rows.entries c.self.inside.marks.entries
      c.self.inside.others.entries c.self.invariant.indexed
      c.take_holder.ensures.order c.in-Some.ensures c.args.id c.take_holder.ensures.row
      (subst (λ b. IsHeldAt c.in-Some.age b c.take_holder.new.rows.entries)
      c.if-not-take_holder.false c.take_holder.ensures.held);
  covered =
      let r = row_found c.args.key.now c.self.inside.rows.entries c.self.inside.marks.entries
      c.self.inside.others.entries c.self.invariant.indexed c.in-Some.age c.in-Some.ensures in
      cover_but c.self.inside.held.ages.entries c.remove.new.self.ages.entries
      c.self.inside.rows.entries
      c.take_holder.new.rows.entries c.self.invariant.covered c.args.id c.in-Some.age
      (freed_less c.args.id c.in-Some.age r.row c.self.inside.rows.entries
      c.take_holder.new.rows.entries r.there c.take_holder.ensures.row)
      (freed_none c.args.id c.in-Some.age r.row c.self.inside.rows.entries
      c.take_holder.new.rows.entries r.there c.take_holder.ensures.row)
      c.remove.ensures.kept;
}

pub returns-else-not-take_holder : goal.returns-else-not-take_holder
returns-else-not-take_holder c =
    freed_rows c.args.key.now c.in-Some.age c.self.inside.rows.entries
    c.take_holder.new.rows.entries c.self.inside.marks.entries
    c.self.inside.others.entries c.self.invariant.indexed
    c.take_holder.ensures.order c.in-Some.ensures c.args.id c.take_holder.ensures.row
    (subst (λ b. IsHeldAt c.in-Some.age b c.take_holder.new.rows.entries)
    c.if-not-take_holder.false c.take_holder.ensures.held)
    ∙ ap (released c.args.id c.args.key.now) c.self.view_is

pub returns-in_default : goal.returns-in_default
returns-in_default c =
    sym c.self.view_is
    ∙ sym (absent_row c.args.id c.args.key.now c.self.inside.rows.entries
    (none_found c.args.key.now c.self.inside.rows.entries c.self.inside.marks.entries
    c.self.inside.others.entries
    c.self.invariant.indexed c.in_default.ensures))
    ∙ ap (released c.args.id c.args.key.now) c.self.view_is
