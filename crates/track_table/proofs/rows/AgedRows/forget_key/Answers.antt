use Rattle.std.proofs.Common.{ap, sym, ◌∙◌}
use Rattle.track_table.specs.Table.{without_key}
use Rattle.track_table.proofs.Aged.{absent_key}
use Rattle.track_table.proofs.Indexes.{none_found, out_indexed, out_rows}
use Rattle.track_table.proofs.Coverings.{cover_others, out_less, out_none}
use Rattle.track_table.proofs.rows.AgedRows.forget_key.Goals as goal

pub invariant_of-self : goal.invariant_of-self
invariant_of-self c = record {
  indexed =
      out_indexed c.args.key.now c.in-Some.age c.self.inside.rows.entries
      c.take_out.new.rows.entries
      c.self.inside.marks.entries
      c.drop_age.new.marks.entries c.self.inside.others.entries c.drop_age.new.others.entries
      c.self.invariant.indexed c.take_out.ensures.order
      c.in-Some.ensures c.take_out.ensures.entries
      c.take_out.ensures.found c.drop_age.ensures;
  covered =
      cover_others c.self.inside.held.ages.entries c.drop_held.new.held.ages.entries
      c.self.inside.rows.entries
      c.take_out.new.rows.entries c.self.invariant.covered c.in-Some.age
      (out_less c.in-Some.age c.self.inside.rows.entries c.take_out.new.rows.entries
      c.take_out.ensures.found)
      (out_none c.in-Some.age c.self.inside.rows.entries c.take_out.new.rows.entries
      c.take_out.ensures.found)
      c.drop_held.ensures;
}

pub returns-in-Some : goal.returns-in-Some
returns-in-Some c =
    out_rows c.args.key.now c.in-Some.age c.self.inside.rows.entries c.take_out.new.rows.entries
    c.self.inside.marks.entries
    c.drop_age.new.marks.entries c.self.inside.others.entries c.drop_age.new.others.entries
    c.self.invariant.indexed c.take_out.ensures.order
    c.in-Some.ensures c.take_out.ensures.entries
    ∙ ap (without_key c.args.key.now) c.self.view_is

pub returns-in_default : goal.returns-in_default
returns-in_default c =
    sym c.self.view_is ∙
    sym (absent_key c.args.key.now c.self.inside.rows.entries
    (none_found c.args.key.now c.self.inside.rows.entries c.self.inside.marks.entries
    c.self.inside.others.entries
    c.self.invariant.indexed c.in_default.ensures))
    ∙ ap (without_key c.args.key.now) c.self.view_is
