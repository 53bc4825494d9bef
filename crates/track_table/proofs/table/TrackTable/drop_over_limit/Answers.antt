use Rattle.std.proofs.Common.{◌≡◌, ◌≤◌, ap, sym, subst, ◌∙◌, ◌++◌, ◌-◌, drop, length, arith}
use Rattle.track_table.specs.Order.{IsTable}
use Rattle.track_table.specs.Table.{TableState}
use Rattle.track_table.proofs.Orders.{cut, table_drop}
use Rattle.track_table.proofs.Parts.{drop_front, over_front, whole_front}
use Rattle.track_table.proofs.table.TrackTable.drop_over_limit.Goals as goal
use Rattle.track_table.proofs.table.TrackTable.drop_over_limit.Goals.{After-truncate}

least : (c : After-truncate) → c.over-over.result ≤ length c.self.inside.oldest.items
least c =
    over_front c.self.inside.limit c.self.inside.oldest.items c.self.inside.rows
    c.self.invariant c.over-over.result
    (c.over-over.ensures ∙ ap (λ (t : TableState). length t.rows - t.limit) (sym c.self.view_is))

left : (c : After-truncate) → c.truncate.new.self.items
    ≡ drop c.over-over.result c.self.inside.oldest.items
left c = let le = least c in grind (arith, cut)

pub invariant_of-self : goal.invariant_of-self
invariant_of-self c =
    let at = (goal.at.invariant_of-self c).After-truncate in
    whole_front c.self.inside.limit c.self.inside.oldest.items c.self.inside.rows
    c.self.invariant c.truncate.new.self.items
    (subst IsTable (drop_front c.over-over.result c.self.inside.oldest.items c.self.inside.rows
    (least at) ∙ sym (ap (λ l. l ++ c.self.inside.rows) (left at)))
    (table_drop c.over-over.result (c.self.inside.oldest.items ++ c.self.inside.rows)
    c.self.invariant.table))
