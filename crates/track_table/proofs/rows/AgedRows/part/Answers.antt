use Rattle.std.proofs.Common.{ap, sym, ◌∙◌, Some}
use Rattle.track_table.specs.Aside.{parted_of}
use Rattle.track_table.specs.Table.{without_key}
use Rattle.track_table.proofs.Aged.{absent_key}
use Rattle.track_table.proofs.Indexes.{age_found, none_found, out_indexed, out_rows, row_found}
use Rattle.track_table.proofs.Indexes.{row_none}
use Rattle.track_table.proofs.Asides.{parted_aged, parted_none}
use Rattle.track_table.proofs.Coverings.{cover_others, out_less, out_none}
use Rattle.track_table.proofs.rows.AgedRows.part.Goals as goal

pub returns-in_default-clause-parted : goal.returns-in_default-clause-parted
returns-in_default-clause-parted c =
    sym (parted_none c.args.key.now c.self.inside.rows.entries
    (none_found c.args.key.now c.self.inside.rows.entries c.self.inside.marks.entries
    c.self.inside.others.entries
    c.self.invariant.indexed c.in_default.ensures))
    ∙ ap (parted_of c.args.key.now) c.self.view_is

pub returns-in_default-clause-rows : goal.returns-in_default-clause-rows
returns-in_default-clause-rows c =
    sym c.self.view_is
    ∙ sym (absent_key c.args.key.now c.self.inside.rows.entries
    (none_found c.args.key.now c.self.inside.rows.entries c.self.inside.marks.entries
    c.self.inside.others.entries
    c.self.invariant.indexed c.in_default.ensures))
    ∙ ap (without_key c.args.key.now) c.self.view_is

pub returns-in_default-remove-clause-parted : goal.returns-in_default-remove-clause-parted
returns-in_default-remove-clause-parted c =
    let r = row_found c.args.key.now c.self.inside.rows.entries c.self.inside.marks.entries
    c.self.inside.others.entries
    c.self.invariant.indexed c.in-Some.age c.in-Some.ensures in
    row_none r.row _ c.in_default-remove.ensures.value r.there

pub returns-in_default-remove-clause-rows : goal.returns-in_default-remove-clause-rows
returns-in_default-remove-clause-rows c =
    let r = row_found c.args.key.now c.self.inside.rows.entries c.self.inside.marks.entries
    c.self.inside.others.entries
    c.self.invariant.indexed c.in-Some.age c.in-Some.ensures in
    row_none r.row _ c.in_default-remove.ensures.value r.there

pub invariant_of-self-2 : goal.invariant_of-self-2
invariant_of-self-2 c = record {
  indexed =
      out_indexed c.args.key.now c.in-Some.age c.self.inside.rows.entries
      c.remove.new.self.entries c.self.inside.marks.entries
      c.drop_age.new.marks.entries c.self.inside.others.entries c.drop_age.new.others.entries
      c.self.invariant.indexed
      c.in-Some-remove.ensures.ordered c.in-Some.ensures c.in-Some-remove.ensures.entries
      c.in-Some-remove.ensures.updates.0 c.drop_age.ensures;
  covered =
      cover_others c.self.inside.held.ages.entries c.drop_held.new.held.ages.entries
      c.self.inside.rows.entries
      c.remove.new.self.entries c.self.invariant.covered c.in-Some.age
      (out_less c.in-Some.age c.self.inside.rows.entries c.remove.new.self.entries
      c.in-Some-remove.ensures.updates.0)
      (out_none c.in-Some.age c.self.inside.rows.entries c.remove.new.self.entries
      c.in-Some-remove.ensures.updates.0)
      c.drop_held.ensures;
}

pub returns-clause-parted : goal.returns-clause-parted
returns-clause-parted c =
    let es = c.self.inside.rows.entries in
    let key = c.args.key.now in
    ap (λ k. Some (record { row = c.in-Some-remove.row; next = k })) c.in_ok-next.ensures
    ∙ sym (parted_aged key c.in-Some.age c.in-Some-remove.row es c.self.invariant.indexed.ordered
    (age_found key es c.self.inside.marks.entries
    c.self.inside.others.entries c.self.invariant.indexed c.in-Some.age
    c.in-Some.ensures) (sym c.in-Some-remove.ensures.value))
    ∙ ap (parted_of key) c.self.view_is

pub returns-clause-rows : goal.returns-clause-rows
returns-clause-rows c =
    out_rows c.args.key.now c.in-Some.age c.self.inside.rows.entries
    c.remove.new.self.entries c.self.inside.marks.entries
    c.drop_age.new.marks.entries c.self.inside.others.entries c.drop_age.new.others.entries
    c.self.invariant.indexed
    c.in-Some-remove.ensures.ordered c.in-Some.ensures c.in-Some-remove.ensures.entries
    ∙ ap (without_key c.args.key.now) c.self.view_is
