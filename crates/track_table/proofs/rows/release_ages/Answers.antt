use Rattle.std.proofs.Common.{ap, sym, ◌∙◌}
use Rattle.track_table.specs.Aged.{rows_of}
use Rattle.track_table.specs.Holdings.{has_age}
use Rattle.track_table.proofs.Coverings.{age_left, no_ages, none_at, none_more}
use Rattle.track_table.proofs.Parts.{all_left}
use Rattle.track_table.proofs.rows.release_ages.Goals as goal

pub ages-preserved : goal.ages-preserved
ages-preserved c = record {
  indexed = c.release_at.ensures.indexed;
  all = λ a h.
      age_left c.args.id c.in-Some.age a c.pop_first.new.self.keys c.release_at.new.rows.entries
      c.release_at.ensures.gone h
      (sym (ap (has_age a) c.in-Some.ensures.removal)
      ∙ c.ages.invariant.all a (c.release_at.ensures.less c.args.id a h));
  rows = c.release_at.ensures.rows ∙ c.ages.invariant.rows;
  less = λ i a h. c.ages.invariant.less i a (c.release_at.ensures.less i a h);
}

pub returns-clause-rows : goal.returns-clause-rows
returns-clause-rows c =
    sym (all_left c.args.id (rows_of c.ages.rows.entries) c.ages.invariant.indexed.table
    (none_at c.args.id c.ages.rows.entries c.ages.invariant.indexed.ordered
    (none_more c.args.id c.ages.left.keys c.ages.rows.entries
    (no_ages c.ages.left.keys c.in_default.ensures.variant.1) c.ages.invariant.all)))
    ∙ c.ages.invariant.rows
