use Rattle.std.proofs.Common.{◌≡◌, ◌<◌, length, get_or, set, rules, ap, sym, ◌∙◌, arith}
use Rattle.std.specs.Prelude.{filter}
use Rattle.std.proofs.lemmas.Fn.{filter_same}
use Rattle.std.proofs.lemmas.List.Edits.{map_over_more}
use Rattle.id_set.proofs.Rows.{changed_all}
use Rattle.track_table.specs.declared.table.Held.{Held}
use Rattle.track_table.specs.Table.{freed_of, is_held, without_connection}
use Rattle.track_table.proofs.table.forget_among.Goals as goal
use Rattle.track_table.proofs.table.forget_among.Goals.{After-retain}

pub loop-row-init : goal.loop-row-init
loop-row-init c = grind arith

pub loop-row-preserved : goal.loop-row-preserved
loop-row-preserved c =
    let rows = c.args.rows.now.items in
    let items = c.loop-row.row-items in
    let i = c.loop-row.row-index in
    let x = c.row-item.result in
    let lt : i < length rows = omega (
      arith,
      c.deref_mut-row-items.ensures.len,
      ap length c.deref_mut-row-items.ensures.value,
    ) in
    ap (λ hs. set items i (record { key = (get_or items i x).key; holders = hs })) c.remove.ensures
    ∙ ap (λ (y : Held). set items i (freed_of c.args.id y)) (sym c.row-item.is)
    ∙ map_over_more (freed_of c.args.id) rows items i x lt c.loop-row.invariant c.row-item.is

-- what is left
left : (c : After-retain) → c.retain.new.self.items
    ≡ without_connection c.args.id c.args.rows.now.items
left c =
    let items = c.loop-row.row-items in
    let inside = c.args.rows.now in
    let at_first = ap length c.deref_mut-row-items.ensures.value in
    filter_same _ _ _ (λ x b f' k. search rules) _ _ c.retain.ensures.filtered
    ∙ ap (filter is_held) (changed_all (freed_of c.args.id) c.args.rows.now.items items inside.items
    c.loop-row.row-index inside.len
    (omega (arith, c.deref_mut-row-items.ensures.len))
    (omega (arith, c.loop-row.auto.row-items))
    (omega (arith, inside.ok.0, c.loop-row.auto.row-items))
    c.loop-row.invariant)

pub returns : goal.returns
returns c = left c
