use Rattle.std.proofs.Common.{sym}
use Rattle.track_table.proofs.Coverings.{cover_others, out_less, out_none}
use Rattle.track_table.proofs.Indexes.{first_indexed}
use Rattle.track_table.proofs.rows.AgedRows.pop_first.Goals as goal

pub invariant_of-self-2 : goal.invariant_of-self-2
invariant_of-self-2 c =
    let es = c.self.inside.rows.entries in
    let es2 = c.pop_first.new.self.entries in
    let out = c.in_ok-age.ensures.updates.0 in record {
      indexed =
          first_indexed (c.in_ok-age.age, c.in_ok-age.row) c.key.result.now es es2
          c.self.inside.marks.entries c.drop_age.new.marks.entries c.self.inside.others.entries
          c.drop_age.new.others.entries (sym c.key.ensures) c.self.invariant.indexed
          c.in_ok-age.ensures.removal c.in_ok-age.ensures.ordered out c.drop_age.ensures;
      covered =
          cover_others c.self.inside.held.ages.entries c.remove_all.new.self.ages.entries es es2
          c.self.invariant.covered c.in_ok-age.age (out_less c.in_ok-age.age es es2 out)
          (out_none c.in_ok-age.age es es2 out) c.remove_all.ensures.kept;
    }
