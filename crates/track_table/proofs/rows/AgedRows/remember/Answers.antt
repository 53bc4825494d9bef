use Rattle.std.proofs.Common.{◌≡◌, ap, sym, subst, ◌∙◌, ◌++◌, ◌∷◌, [], refl}
use Rattle.track_table.specs.Order.{IsTable}
use Rattle.track_table.specs.Table.{remembered}
use Rattle.track_table.proofs.Aged.{new_row}
use Rattle.track_table.proofs.Indexes.{grown_indexed, grown_rows, indexed_same, none_found, on_ok}
use Rattle.track_table.proofs.Orders.{table_remembered}
use Rattle.id_set.specs.Ids.{with_id}
use Rattle.track_table.specs.Table.{holders_of}
use Rattle.track_table.specs.Order.{AreOrdered}
use Rattle.track_table.specs.Holdings.{holds_at, is_held_by}
use Rattle.track_table.proofs.Coverings.{cover_but, cover_more, grown_more, same_less}
use Rattle.track_table.proofs.Indexes.{row_found}
use Rattle.track_table.proofs.Parts.{held_by}
use Rattle.track_table.proofs.Releases.{remembered_held}
use Rattle.track_table.proofs.rows.AgedRows.remember.Goals as goal
use Rattle.track_table.proofs.rows.AgedRows.remember.Goals.{In_ok-insert-in-None}

pub returns-then-holds-clause-ok : goal.returns-then-holds-clause-ok
returns-then-holds-clause-ok c =
    sym (remembered_held c.args.id c.args.key.now c.args.self.now
    (subst AreOrdered c.self.view_is c.self.invariant.indexed.table.ordered)
    (sym c.holds.ensures ∙ c.if-holds.true))

pub invariant_of-self-in-Ok : goal.invariant_of-self-in-Ok
invariant_of-self-in-Ok c =
    let es = c.self.inside.rows.entries in
    let es2 = c.add_holder.new.rows.entries in
    let marks = c.self.inside.marks.entries in
    let others = c.self.inside.others.entries in
    let is = c.self.invariant.indexed in
    let r = row_found c.args.key.now es marks others is c.in-Some.age c.in-Some.ensures in record {
      indexed =
          grown_indexed c.args.key.now c.in-Some.age es es2 marks others is
          c.add_holder.ensures.order c.in-Some.ensures c.args.id c.in-Ok.ensures.ok;
      covered =
          cover_more c.self.inside.held.ages.entries c.add.new.self.ages.entries es es2
          c.self.invariant.covered c.args.id c.in-Some.age c.in_ok-add-in-Some.ensures.kept
          c.in_ok-add-in-Some.ensures.ok
          (grown_more c.args.id c.in-Some.age r.row es es2 r.there c.in-Ok.ensures.ok);
    }

pub invariant_of-self-in-Err : goal.invariant_of-self-in-Err
invariant_of-self-in-Err c =
    let es = c.self.inside.rows.entries in
    let es2 = c.add_holder.new.rows.entries in
    let marks = c.self.inside.marks.entries in
    let others = c.self.inside.others.entries in
    let is = c.self.invariant.indexed in
    let same = c.in-Err.ensures.err in
    let r = row_found c.args.key.now es marks others is c.in-Some.age c.in-Some.ensures in record {
      indexed =
          indexed_same es es2 marks marks others others is c.add_holder.ensures.order same refl
          refl;
      covered =
          cover_but c.add.new.self.ages.entries c.remove.new.self.ages.entries es es2
          (λ i a h. c.in_ok-add-in-Some.ensures.kept i a (c.self.invariant.covered i a h)) c.args.id
          c.in-Some.age (same_less es es2 same)
          (ap (holds_at c.args.id c.in-Some.age) same ∙ ap (is_held_by c.args.id) r.there
          ∙ sym (ap (held_by c.args.id) r.holders)
          ∙ ap (λ l. held_by c.args.id (holders_of c.args.key.now l)) c.self.view_is
          ∙ sym c.holds.ensures ∙ c.if-holds.false)
          c.remove.ensures.kept;
    }

pub returns-in-Ok-clause-ok : goal.returns-in-Ok-clause-ok
returns-in-Ok-clause-ok c =
    grown_rows c.args.key.now c.in-Some.age c.self.inside.rows.entries
    c.add_holder.new.rows.entries c.self.inside.marks.entries c.self.inside.others.entries
    c.self.invariant.indexed c.add_holder.ensures.order c.in-Some.ensures c.args.id
    c.in-Ok.ensures.ok
    ∙ ap (remembered c.args.id c.args.key.now) c.self.view_is

-- the rows with the new one
more : (c : In_ok-insert-in-None) → remembered c.args.id c.args.key.now c.args.self.now
    ≡ c.args.self.now ++ record { key = c.in_ok-text-in-None.text; holders = c.insert.new.self } ∷
    []
more c =
    let none = none_found c.args.key.now c.self.inside.rows.entries c.self.inside.marks.entries
    c.self.inside.others.entries
    c.self.invariant.indexed c.in-None.ensures in
    let holders = c.in_ok-insert-in-None.ensures.ok
    ∙ ap (with_id c.args.id) c.new-holders.ensures in
    ap (remembered c.args.id c.args.key.now) (sym c.self.view_is)
    ∙ new_row c.args.id c.args.key.now c.self.inside.rows.entries none
    ∙ (λ i. c.self.view_is i ++ record {
      key = sym c.in_ok-text-in-None.ensures i;
      holders = sym holders i;
    } ∷ [])

pub push-requires-clause-table : goal.push-requires-clause-table
push-requires-clause-table c =
    let at = (goal.at.push-requires-clause-table c).In_ok-insert-in-None in
    subst IsTable (more at) (table_remembered c.args.id c.args.key.now c.args.self.now
    (subst IsTable c.self.view_is c.self.invariant.indexed.table))

pub returns-in_ok-insert-in-None-clause-ok : goal.returns-in_ok-insert-in-None-clause-ok
returns-in_ok-insert-in-None-clause-ok c =
    let at = (goal.at.returns-in_ok-insert-in-None-clause-ok c).In_ok-insert-in-None in
    on_ok c.push.result c.push.ensures.ok (λ new. new ∙ sym (more at))
