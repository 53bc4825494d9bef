use Rattle.std.proofs.Common.{◌≡◌, ◌<◌, length, get_or, set, rules, ap, sym, subst, ◌∙◌, arith}
use Rattle.std.specs.Prelude.{filter}
use Rattle.std.proofs.lemmas.Fn.{filter_same}
use Rattle.std.proofs.lemmas.List.Edits.{map_over_more}
use Rattle.id_set.proofs.Rows.{changed_all}
use Rattle.prefix_table.specs.declared.table.Registration.{Registration}
use Rattle.prefix_table.specs.Table.{left_by, is_held, without_connection}
use Rattle.prefix_table.specs.Order.{IsTable}
use Rattle.prefix_table.proofs.Orders.{table_without_connection}
use Rattle.prefix_table.proofs.table.PrefixTable.remove_connection.Goals as goal
use Rattle.prefix_table.proofs.table.PrefixTable.remove_connection.Goals.{After-retain}

pub loop-row-init : goal.loop-row-init
loop-row-init c = c.deref_mut-row-items.ensures.value ∙ c.self.view_is

pub loop-row-preserved : goal.loop-row-preserved
loop-row-preserved c =
    let rows = c.args.self.now in
    let items = c.loop-row.row-items in
    let i = c.loop-row.row-index in
    let x = c.row-item.result in
    let lt : i < length rows = omega (
      arith,
      c.deref_mut-row-items.ensures.len,
      ap length c.deref_mut-row-items.ensures.value,
      ap length c.self.view_is,
    ) in
    ap (λ ids. set items i (record { prefix = (get_or items i x).prefix; ids = ids }))
    c.remove.ensures
    ∙ ap (λ (y : Registration). set items i (left_by c.args.id y)) (sym c.row-item.is)
    ∙ map_over_more (left_by c.args.id) rows items i x lt c.loop-row.invariant c.row-item.is

-- what is left
left : (c : After-retain) → c.retain.new.self.items ≡ without_connection c.args.id c.args.self.now
left c =
    let items = c.loop-row.row-items in
    let inside = c.self.inside.rows in
    let at_first = ap length c.deref_mut-row-items.ensures.value in
    let viewed = ap length c.self.view_is in
    filter_same _ _ _ (λ x b f' k. search rules) _ _ c.retain.ensures.filtered
    ∙ ap (filter is_held) (changed_all (left_by c.args.id) c.args.self.now items inside.items
    c.loop-row.row-index inside.len
    (omega (arith, c.deref_mut-row-items.ensures.len))
    (omega (arith, c.loop-row.auto.row-items))
    (omega (arith, inside.ok.0, c.loop-row.auto.row-items))
    c.loop-row.invariant)

pub invariant_of-self : goal.invariant_of-self
invariant_of-self c =
    subst IsTable (sym (left c)) (grind (arith, table_without_connection))

pub returns : goal.returns
returns c = left c
