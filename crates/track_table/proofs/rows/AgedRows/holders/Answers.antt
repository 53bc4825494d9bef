use Rattle.std.proofs.Common.{◌≡◌, ◌∙◌, ap, sym, subst}
use Rattle.id_set.specs.Ids.{Ascend}
use Rattle.track_table.specs.declared.table.Held.{Held}
use Rattle.track_table.specs.Table.{holders_of}
use Rattle.track_table.proofs.Aged.{no_holders}
use Rattle.track_table.proofs.Indexes.{none_found, row_found, row_none, row_same}
use Rattle.track_table.proofs.Orders.{holders_ascend}
use Rattle.track_table.proofs.rows.AgedRows.holders.Goals as goal

pub returns-in-Some-get : goal.returns-in-Some-get
returns-in-Some-get c =
    let key = c.args.key.now in
    let es = c.self.inside.rows.entries in
    let is = c.self.invariant.indexed in
    let r = row_found key es c.self.inside.marks.entries
    c.self.inside.others.entries is c.in-Some.age
    c.in-Some.ensures in
    let row = row_same c.in-Some-get.row.now r.row _ c.in-Some-get.ensures.value r.there in
    let list : c.holders.result.now ≡ holders_of key c.args.self.now =
    c.holders.ensures ∙ ap (λ (h : Held). h.holders) row ∙ sym r.holders
    ∙ ap (holders_of key) c.self.view_is in record {
      list = list;
      ascending = subst Ascend (sym (list ∙ sym (ap (holders_of key) c.self.view_is)))
          (holders_ascend key _ is.table);
    }

pub returns-in-None-get : goal.returns-in-None-get
returns-in-None-get c =
    let r = row_found c.args.key.now c.self.inside.rows.entries c.self.inside.marks.entries
    c.self.inside.others.entries
    c.self.invariant.indexed c.in-Some.age c.in-Some.ensures in
    row_none r.row _ c.in-None-get.ensures.value r.there

pub returns-in-None : goal.returns-in-None
returns-in-None c =
    let none = none_found c.args.key.now c.self.inside.rows.entries c.self.inside.marks.entries
    c.self.inside.others.entries
    c.self.invariant.indexed c.in-None.ensures in record {
      list = sym (no_holders c.args.key.now c.self.inside.rows.entries none)
          ∙ ap (holders_of c.args.key.now) c.self.view_is;
      ascending = tt;
    }
