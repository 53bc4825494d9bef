use Rattle.std.proofs.Common.{sym, subst, ◌++◌, ◌∷◌, [], List}
use Rattle.track_table.specs.declared.table.Held.{Held}
use Rattle.track_table.specs.Order.{IsTable}
use Rattle.track_table.proofs.Coverings.{cover_but, cover_more, in_more, no_row, same_less}
use Rattle.track_table.proofs.Indexes.{indexed_same, put_indexed}
use Rattle.track_table.proofs.rows.AgedRows.push.Goals as goal

pub invariant_of-self-in-Ok : goal.invariant_of-self-in-Ok
invariant_of-self-in-Ok c =
    let es = c.self.inside.rows.entries in
    let es2 = c.put_row.new.rows.entries in record {
      indexed =
          put_indexed c.args.key.now c.in-Some.age es es2 c.self.inside.marks.entries
          c.put_row.new.marks.entries c.self.inside.others.entries c.put_row.new.others.entries
          c.self.invariant.indexed c.put_row.ensures.order c.args.row
          (subst (λ (l : List Held). IsTable (l ++ c.args.row ∷ [])) (sym c.self.view_is)
          c.requires.table)
          c.in-Ok.ensures.ok c.requires.key c.in-Some.ensures c.in-Ok.ensures.found
          c.in-Ok.ensures.put;
      covered =
          cover_more c.self.inside.held.ages.entries c.add.new.self.ages.entries es es2
          c.self.invariant.covered c.args.id c.in-Some.age c.in_ok-add.ensures.kept
          c.in_ok-add.ensures.ok
          (in_more c.args.id c.in-Some.age c.args.row es es2 c.requires.holders
          c.in-Ok.ensures.found);
    }

pub invariant_of-self-in-Err : goal.invariant_of-self-in-Err
invariant_of-self-in-Err c =
    let es = c.self.inside.rows.entries in
    let es2 = c.put_row.new.rows.entries in
    let same = c.in-Err.ensures.err in record {
      indexed =
          indexed_same es es2 c.self.inside.marks.entries c.put_row.new.marks.entries
          c.self.inside.others.entries c.put_row.new.others.entries c.self.invariant.indexed
          c.put_row.ensures.order same.0 same.1 same.2;
      covered =
          cover_but c.add.new.self.ages.entries c.remove.new.self.ages.entries es es2
          (λ i a h. c.in_ok-add.ensures.kept i a (c.self.invariant.covered i a h)) c.args.id
          c.in-Some.age (same_less es es2 same.0)
          (no_row c.args.id c.in-Some.age es es2 c.in-Some.ensures same.0)
          c.remove.ensures.kept;
    }
